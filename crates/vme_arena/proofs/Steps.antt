-- The names that the walks cite, in one place.
pub use Rattle.std.proofs.Common.{◌≡◌, ℕ, zero, suc, ◌+◌, ◌-◌, ◌*◌, ◌/◌, ◌%◌, ◌^◌, ◌<◌, ◌≤◌, List, [], ◌∷◌, ◌++◌, Bool, true, false, T, not, eqb, Some, None, Ok, Err, IfSome, refl, sym, ap, subst}
pub use Rattle.std.proofs.Common.{◌∙◌, arith, lit<, eqb→eq, w8, w64}
pub use base.Fraction.{full_share}
pub use base.Logic.{SProp, emp, never, ent, sep, wand, id⊢, via, apply∗, upd_i}
pub use base.Fml.{Lft, Share, Fml, ftrue, fat, fsep, fex, fwand, froom, flft, fbor, fobor}
pub use mir.Syntax.{Ty, Fn, ty_int, ty_array, ty_struct, ty_ptr, tcons, tnil}
pub use mir.Val.{Val, vint, vptr, vunit, vstruct, vcons, vnil}
pub use prog.Memory.{size, align, capped}
pub use prog.Capped.{capped_is}
pub use prog.Wp.{Env, WpFn}
pub use contract.Monad.{fact, fact_i}
pub use contract.Running.{tables}
pub use types.Logic.{sem}
pub use types.Kit.{‵, raw, ◌⊛◌, some, given, later, prop, at_ret, settles, ◌$◌, ◌∵◌, !, qed, by, done, move, keep, drop, use0, use1, use2, use3, split, split3, join, pick, learn, rewrite, regoal}
pub use types.Kit.{fsplit, fsplit3, fjoin, fpick, fpack, feq_i, feq_l, flt_i, await, frame}
pub use types.Part.{whole, sub, agg, look_in, store_in}
pub use types.Match.{live, vrt, in_variant}
pub use types.Run.{stop, fld, lit, unit_lit, bin, addr, load, look, store, init, of_opd, no_more, and_then, assigns, assigns_last, first, blocks, branches, switches_on, exec, returns, enter}
pub use types.ByLocal.{alloc_all, pass_all, free_all, look_at, get, get_in, get_tag, through, sets, sets_last, lands_as, lands_last, is, env}
pub use types.Tokens.{bor_open, obor_close}
pub use denote.RattleType.{RattleType, owns}
pub use denote.Builtin.{usize, unit, bool}
pub use denote.RawPtr.{Ptr, block_ptr, null_ptr, ptr_val, in_a_block, count_of, room_for, tests_same, tests_order}
pub use denote.Signature.{types_at, type_at}
pub use denote.Steps.{nothing, heard, only}
pub use denote.Struct.Tuple.{Tuple}
pub use denote.Triple.Entry.{alive}
pub use denote.Triple.Walked.{Stays, stay_dropped, walk_of, Goes-dropped}
pub use Rattle.core.proofs.alloc.Calls.{Goes-blank}
pub use Rattle.core.proofs.alloc.Shapes.{after, head, inside, arm_body}
pub use Rattle.core.proofs.atomic.Steps.{fm}
pub use Rattle.core.proofs.option.Made.{Some-of, none_of}
pub use Rattle.std_alloc.proofs.Pairs.{pair_of, pair_val}
pub use Rattle.std.proofs.raw_atomic.Walks.{proved_at, leaves}
