-- A command line, as each call adds to it.
use Rattle.std.proofs.Common.{◌≡◌, ◌∙◌, Bool, true, false, not, is_some, refl, ap, ap₂}
use Rattle.clap.specs.Words.{AddsArg, AddsSubcommand, App, Rule, Shape, app_of, rule_of, shape_of, with_rule, with_subcommand}
use Rattle.clap.specs.Walk.{is_empty, is_simple_arg}
use Rattle.clap.specs.declared.builder.arg.Arg.{Arg}
use Rattle.clap.specs.declared.builder.command.Command.{Command}
use Rattle.clap.specs.declared.builder.command.Command.TheViews.{out-Command as fields_of}
use Rattle.clap.proofs.WalkLemmas.{both}

is_false : (b : Bool) → not b ≡ true → b ≡ false
is_false true e = cc
is_false false e = refl

-- a simple argument is not global, and neither is one of a plain command
local : (a : Arg) → is_simple_arg a ≡ true → a.global ≡ false
local a e =
    let defaults = (both (is_empty a.overrides.items) _ e).1 in
    let groups = (both (is_empty a.default_vals_ifs.items) _ defaults).1 in
    let delimiter = (both (is_empty a.groups.items) _ groups).1 in
    let terminator = (both (not (is_some a.val_delim)) _ delimiter).1 in
    let hyphens = (both (not (is_some a.terminator)) _ terminator).1 in
    let negatives = (both (not a.allow_hyphen_values) _ hyphens).1 in
    let equals = (both (not a.allow_negative_numbers) _ negatives).1 in
    let last = (both (not a.require_equals) _ equals).1 in
    is_false _ (both (not a.last) _ last).1

plain_local : (c : Command) → (shape_of c).is_plain ≡ true → (fields_of c).has_globals ≡ false
plain_local c e =
    let external = (both _ _ e).1 in
    let globals = (both _ _ external).1 in
    is_false _ (both _ _ globals).0

pub added : (old new : Command) (a : Arg) (base : App) (r : Rule) → AddsArg old a new → app_of old ≡ base → rule_of a ≡ r → r.is_simple ≡ true
    → app_of new ≡ with_rule base r
added old new a base r adds was is simple =
    adds.shape (local a (ap (λ (q : Rule). q.is_simple) is ∙ simple)) ∙ ap₂ with_rule was is

pub put : (old new sub : Command) (base : App) (s : Shape) → AddsSubcommand old sub new → app_of old ≡ base → shape_of sub ≡ s → s.is_plain ≡ true
    → app_of new ≡ with_subcommand base s
put old new sub base s adds was is plain =
    adds.shape (plain_local sub (ap (λ (t : Shape). t.is_plain) is ∙ plain)) ∙ ap₂ with_subcommand was is
