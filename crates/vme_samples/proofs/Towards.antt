-- Who may have made each change of a sample on the ways to all of a set, found from that set down.
use Rattle.std.proofs.Common.{◌≡◌, ◌≢◌, ◌⊎◌, ◌∙◌, ◌<◌, ◌≤◌, ◌+◌, ◌-◌, ◌^◌, ℕ, Bool, true, false, List, length, inl, inr, refl, sym, ap, subst, arith}
use Rattle.std.specs.Prelude.{◌==◌, ◌&&◌, ◌||◌, not, nat_le}
use Rattle.std.proofs.lemmas.Bool.{cases_lt}
use Rattle.std.proofs.lemmas.Nat.Bits.{bit_at-zero}
use Rattle.std.proofs.Math.Pow.{pow_pos}
use Rattle.vme_model.specs.Plan.{Plan}
use Rattle.vme_model.proofs.Bools.{same_number}
use Rattle.vme_bus.specs.Sets.{has}
use Rattle.vme_standings.specs.declared.standings.Drivers.{Drivers}
use Rattle.vme_standings.specs.declared.standings.Probed.{Probed}
use Rattle.vme_standings.specs.Standings.{is_nobody}
use Rattle.vme_standings.proofs.Tests.{never, or_left, or_true}
use Rattle.vme_samples.specs.declared.makers.Makers.{Makers}
use Rattle.vme_samples.specs.declared.places.Places.{Places}
use Rattle.vme_samples.specs.declared.samples.SeenChange.{SeenChange}
use Rattle.vme_samples.specs.Makers.{AreNoted, Notes, UnitesDrivers, by_at}
use Rattle.vme_samples.specs.Places.{with}
use Rattle.vme_samples.specs.Ways.{AreAmong, AreMakers, HasAll, Known, MakeNext, ReachesOn, Reaching, SomeMake, is_reaching, nobody, reaching_at}

-- the set is one of those from the goal down, so many
pub record IsDone (goal : Places) (back : ℕ) (set : Places) : Type 0 where
  pub near : set.bits ≤ goal.bits
  pub above : goal.bits < set.bits + back

pub record DoneSource (p : Plan) (probed : Probed) (sample : List SeenChange) (known : Known) (goal : Places) (reaching : Reaching) (back i : ℕ) : Type 0 where
  pub set : Places
  pub done : IsDone goal back set
  pub drivers : Drivers
  pub next : MakeNext p probed sample known goal reaching set i drivers

-- exactly those who may make the change behind one of these sets
pub record MakersOfDone (p : Plan) (probed : Probed) (sample : List SeenChange) (known : Known) (goal : Places) (reaching : Reaching) (back i : ℕ) (d : Drivers) : Type 0 where
  pub controller : d.controller ≡ true
      → (x : DoneSource p probed sample known goal reaching back i) × (x.drivers.controller ≡ true)
  pub boards : (s : ℕ) → has d.boards s ≡ true
      → (x : DoneSource p probed sample known goal reaching back i) × (has x.drivers.boards s ≡ true)
  pub all : (set : Places) → IsDone goal back set → HasAll p probed sample known goal reaching set i d

pub record MakersDone (p : Plan) (probed : Probed) (sample : List SeenChange) (known : Known) (goal : Places) (reaching : Reaching) (back : ℕ) (by : ℕ → Drivers) : Type 0 where
  pub at_goal : 0 < back → reaching_at reaching goal ≡ true
  pub reaches : (set : Places) → IsDone goal back set → reaching_at reaching set ≡ true
      → ReachesOn p probed sample known goal reaching set
  pub each : (i : ℕ) → i < length sample → MakersOfDone p probed sample known goal reaching back i (by i)

no_board : (s : ℕ) → has nobody.boards s ≡ false
no_board s = ap (λ x. x == 1) (bit_at-zero s)

none_done : (goal set : Places) → IsDone goal 0 set → ⊥
none_done goal set done = let l = done.near in let m = done.above in omega (arith, l, m)

-- before the first set
pub none_yet : (p : Plan) (probed : Probed) (sample : List SeenChange) (known : Known) (goal : Places) (reaching : Reaching) (by : ℕ → Drivers) → ((i : ℕ) → i < length sample → by i ≡ nobody)
    → MakersDone p probed sample known goal reaching 0 by
none_yet p probed sample known goal reaching by none = record {
  at_goal = λ l. absurd (omega (arith, l));
  reaches = λ set done at. absurd (none_done goal set done);
  each = λ i l. record {
    controller = λ c. absurd (never (by i).controller c (ap (λ d. d.controller) (none i l)));
    boards = λ s c. absurd (never (has (by i).boards s) c (ap (λ d. has d.boards s) (none i l) ∙ no_board s));
    all = λ set done. absurd (none_done goal set done);
  };
}

-- behind all of them
pub all_done : (p : Plan) (probed : Probed) (sample : List SeenChange) (known : Known) (goal : Places) (reaching : Reaching) (back : ℕ) (by : ℕ → Drivers) → back ≡ goal.bits + 1
    → MakersDone p probed sample known goal reaching back by → AreMakers p probed sample known goal by
all_done p probed sample known goal reaching back by ended m = record {
  reaching = reaching;
  at_goal = m.at_goal (omega (arith, ended));
  reaches = λ set near at. m.reaches set (record { near = near; above = omega (arith, ended) }) at;
  each = λ i l. let e = m.each i l in record {
    controller = λ c. let x = e.controller c in (record { set = x.0.set; near = x.0.done.near; drivers = x.0.drivers; next = x.0.next }, x.1);
    boards = λ s c. let x = e.boards s c in (record { set = x.0.set; near = x.0.done.near; drivers = x.0.drivers; next = x.0.next }, x.1);
    all = λ set near. e.all set (record { near = near; above = omega (arith, ended) });
  };
}

-- ---- one change more

split : (x a b : Bool) → x ≡ (a || b) → x ≡ true → (a ≡ true) ⊎ (b ≡ true)
split x true b e is = inl refl
split x false b e is = inr (sym e ∙ is)

pub none_noted : (p : Plan) (probed : Probed) (sample : List SeenChange) (known : Known) (goal : Places) (reaching : Reaching) (set : Places) (m : Makers) (some : Bool) → some ≡ false
    → AreNoted p probed sample known goal reaching set 0 m m some
none_noted p probed sample known goal reaching set m some none = record {
  each = λ i l. absurd (omega (arith, l));
  others = λ i l. refl;
  found = λ is. absurd (never some is none);
}

is_some : (a : Bool) → not a ≡ true → a ≡ false
is_some true e = cc
is_some false e = refl

pub one_noted : (p : Plan) (probed : Probed) (sample : List SeenChange) (known : Known) (goal : Places) (reaching : Reaching) (set : Places) (n : ℕ) (d : Drivers) (first old new : Makers)
    (before some : Bool)
    → MakeNext p probed sample known goal reaching set n d → UnitesDrivers (by_at old n) d (by_at new n) → ((i : ℕ) → i ≢ n → by_at new i ≡ by_at old i) → some ≡ (before || not (is_nobody d))
    → AreNoted p probed sample known goal reaching set n first old before → AreNoted p probed sample known goal reaching set (n + 1) first new some
one_noted p probed sample known goal reaching set n d first old new before some next unites others so noted = record {
  each = λ i l. by_order i (cases_lt i n) l;
  others = λ i l. others i (λ e. absurd (omega (arith, l, e))) ∙ noted.others i (omega (arith, l));
  found = λ is. of_some (split some before (not (is_nobody d)) so is);
}
  where
    by_order : (i : ℕ) → (i < n) ⊎ (n ≤ i) → i < n + 1 → Notes p probed sample known goal reaching set i (by_at first i) (by_at new i) some
    by_order i (inl l) m =
        let h = noted.each i l in
        subst (λ (x : Drivers). Notes p probed sample known goal reaching set i (by_at first i) x some) (sym (others i (λ e. absurd (omega (arith, l, e))))) (record {
          drivers = h.drivers;
          next = h.next;
          unites = h.unites;
          is_some = λ x. so ∙ or_left before (not (is_nobody d)) (h.is_some x);
        })
    by_order i (inr l) m =
        let e : n ≡ i = omega (arith, l, m) in
        subst (λ k. Notes p probed sample known goal reaching set k (by_at first k) (by_at new k) some) e (record {
          drivers = d;
          next = next;
          unites = subst (λ (x : Drivers). UnitesDrivers x d (by_at new n)) (noted.others n (omega arith)) unites;
          is_some = λ x. so ∙ or_true before (not (is_nobody d)) (ap (λ b. not b) x);
        })

    of_some : (before ≡ true) ⊎ (not (is_nobody d) ≡ true) → (i : ℕ) × (i < n + 1) × (e : Drivers) × SomeMake p probed sample known goal reaching set i e
    of_some (inl b) = let f = noted.found b in let l = f.1 in (f.0, omega (arith, l), f.2, f.3)
    of_some (inr b) = (n, omega arith, d, record { next = next; some = is_some (is_nobody d) b })

-- ---- one set more

same_set : (a b : Places) → a.bits ≡ b.bits → a ≡ b
same_set a b e = ap (λ (n : ℕ). let r : Places = record { bits = n } in r) e

-- the set is done, the goal is `back` above it, and of the others it stays whether they reach the goal
pub record IsPut (goal : Places) (back : ℕ) (set : Places) (is : Bool) (old new : Reaching) : Type 0 where
  pub back_near : back ≤ goal.bits
  pub place : set.bits ≡ goal.bits - back
  pub here : reaching_at new set ≡ is
  pub others : (other : Places) → other.bits ≢ set.bits → reaching_at new other ≡ reaching_at old other

-- a set that is done is this one, or was done
one_more : (goal : Places) (back : ℕ) (put set : Places) → back ≤ goal.bits → put.bits ≡ goal.bits - back → IsDone goal (back + 1) set → (set ≡ put) ⊎ IsDone goal back set
one_more goal back put set near place done = by_order (cases_lt put.bits set.bits)
  where
    by_order : (put.bits < set.bits) ⊎ (set.bits ≤ put.bits) → (set ≡ put) ⊎ IsDone goal back set
    by_order (inl l) = inr (record { near = done.near; above = omega (arith, l, near, place) })
    by_order (inr l) = let m = done.above in inl (same_set set put (omega (arith, l, m, near, place)))

above_put : (goal : Places) (back : ℕ) (put set : Places) → back ≤ goal.bits → put.bits ≡ goal.bits - back → IsDone goal back set → put.bits < set.bits
above_put goal back put set near place done = let m = done.above in omega (arith, m, near, place)

next_kept : (p : Plan) (probed : Probed) (sample : List SeenChange) (known : Known) (goal put set : Places) (back i : ℕ) (is : Bool) (old new : Reaching) (d : Drivers) → IsPut goal back put is old new
    → put.bits ≤ set.bits → MakeNext p probed sample known goal old set i d → MakeNext p probed sample known goal new set i d
next_kept p probed sample known goal put set back i is old new d puts le m =
    let grown : 0 < 2 ^ i = pow_pos i in
    let e : is_reaching new goal (with set i) ≡ is_reaching old goal (with set i) =
    ap (λ x. nat_le (set.bits + 2 ^ i) goal.bits && x) (puts.others (with set i) (λ q. let r : set.bits + 2 ^ i ≡ put.bits = q in absurd (omega (arith, grown, le, r)))) in
    record {
      able = λ c r. m.able c (sym e ∙ r);
      late = m.late;
      lost = λ r. m.lost (sym e ∙ r);
    }

all_kept : (p : Plan) (probed : Probed) (sample : List SeenChange) (known : Known) (goal put set : Places) (back i : ℕ) (is : Bool) (old new : Reaching) (d e : Drivers)
    → IsPut goal back put is old new → put.bits < set.bits → AreAmong d e → HasAll p probed sample known goal old set i d → HasAll p probed sample known goal new set i e
all_kept p probed sample known goal put set back i is old new d e puts l among h = record {
  drivers = h.drivers;
  next = next_kept p probed sample known goal put set back i is old new h.drivers puts (omega (arith, l)) h.next;
  among = record {
    controller = λ c. among.controller (h.among.controller c);
    boards = λ s c. among.boards s (h.among.boards s c);
  };
  reaches = λ some. puts.others set (λ q. absurd (omega (arith, l, q))) ∙ h.reaches some;
}

among_old : (a b c : Drivers) → UnitesDrivers a b c → AreAmong a c
among_old a b c u = record {
  controller = λ x. u.controller ∙ or_left a.controller b.controller x;
  boards = λ s x. u.boards s ∙ or_left (has a.boards s) (has b.boards s) x;
}

among_new : (a b c : Drivers) → UnitesDrivers a b c → AreAmong b c
among_new a b c u = record {
  controller = λ x. u.controller ∙ or_true a.controller b.controller x;
  boards = λ s x. u.boards s ∙ or_true (has a.boards s) (has b.boards s) x;
}

some_kept : (p : Plan) (probed : Probed) (sample : List SeenChange) (known : Known) (goal put set : Places) (back : ℕ) (is : Bool) (old new : Reaching) → IsPut goal back put is old new
    → put.bits ≤ set.bits
    → ((i : ℕ) × (i < length sample) × (d : Drivers) × SomeMake p probed sample known goal old set i d)
    → ReachesOn p probed sample known goal new set
some_kept p probed sample known goal put set back is old new puts le x =
    inr (x.0, x.1, x.2, record { next = next_kept p probed sample known goal put set back x.0 is old new x.2 puts le x.3.next; some = x.3.some })

reach_kept : (p : Plan) (probed : Probed) (sample : List SeenChange) (known : Known) (goal put set : Places) (back : ℕ) (is : Bool) (old new : Reaching) → IsPut goal back put is old new
    → put.bits ≤ set.bits → ReachesOn p probed sample known goal old set → ReachesOn p probed sample known goal new set
reach_kept p probed sample known goal put set back is old new puts le (inl e) = inl e
reach_kept p probed sample known goal put set back is old new puts le (inr x) = some_kept p probed sample known goal put set back is old new puts le x

-- one change of the sample
makers_step : (p : Plan) (probed : Probed) (sample : List SeenChange) (known : Known) (goal put : Places) (back i : ℕ) (some is : Bool) (old new : Reaching) (d e : Drivers)
    → IsPut goal back put is old new → (some ≡ true → is ≡ true) → Notes p probed sample known goal old put i d e some → MakersOfDone p probed sample known goal old back i d
    → MakersOfDone p probed sample known goal new (back + 1) i e
makers_step p probed sample known goal put back i some is old new d e puts some_is notes m = record {
  controller = λ c. of_controller (split e.controller d.controller notes.drivers.controller notes.unites.controller c);
  boards = λ s c. of_board s (split (has e.boards s) (has d.boards s) (has notes.drivers.boards s) (notes.unites.boards s) c);
  all = λ set done. of_set set (one_more goal back put set puts.back_near puts.place done);
}
  where
    here_done : IsDone goal (back + 1) put
    here_done = let a = puts.back_near in let b = puts.place in record { near = omega (arith, a, b); above = omega (arith, a, b) }

    here : DoneSource p probed sample known goal new (back + 1) i
    here = record { set = put; done = here_done; drivers = notes.drivers; next = next_kept p probed sample known goal put put back i is old new notes.drivers puts (omega arith) notes.next }

    kept : DoneSource p probed sample known goal old back i → DoneSource p probed sample known goal new (back + 1) i
    kept x =
        let l = above_put goal back put x.set puts.back_near puts.place x.done in
        let m = x.done.above in
        record {
          set = x.set;
          done =
              record { near = x.done.near; above = omega (arith, m) };
          drivers = x.drivers;
          next = next_kept p probed sample known goal put x.set back i is old new x.drivers puts
              (omega (arith, l)) x.next;
        }

    of_controller : (d.controller ≡ true) ⊎ (notes.drivers.controller ≡ true) → (x : DoneSource p probed sample known goal new (back + 1) i) × (x.drivers.controller ≡ true)
    of_controller (inl c) = let x = m.controller c in (kept x.0, x.1)
    of_controller (inr c) = (here, c)

    of_board : (s : ℕ) → (has d.boards s ≡ true) ⊎ (has notes.drivers.boards s ≡ true) → (x : DoneSource p probed sample known goal new (back + 1) i) × (has x.drivers.boards s ≡ true)
    of_board s (inl c) = let x = m.boards s c in (kept x.0, x.1)
    of_board s (inr c) = (here, c)

    all_here : HasAll p probed sample known goal new put i e
    all_here = record {
      drivers = notes.drivers;
      next = next_kept p probed sample known goal put put back i is old new notes.drivers puts (omega arith) notes.next;
      among = among_new d notes.drivers e notes.unites;
      reaches = λ x. puts.here ∙ some_is (notes.is_some x);
    }

    of_set : (set : Places) → (set ≡ put) ⊎ IsDone goal back set → HasAll p probed sample known goal new set i e
    of_set set (inl q) = subst (λ x. HasAll p probed sample known goal new x i e) (sym q) all_here
    of_set set (inr done) = all_kept p probed sample known goal put set back i is old new d e puts (above_put goal back put set puts.back_near puts.place done)
        (among_old d notes.drivers e notes.unites) (m.all set done)

is_at_goal : (back : ℕ) → (back == 0) ≡ true → back ≡ 0
is_at_goal back e = same_number back 0 e

-- all of them
pub set_done : (p : Plan) (probed : Probed) (sample : List SeenChange) (known : Known) (goal put : Places) (back : ℕ) (some is : Bool) (old new : Reaching) (m m' : Makers)
    → IsPut goal back put is old new → is ≡ (some || (back == 0)) → AreNoted p probed sample known goal old put (length sample) m m' some → MakersDone p probed sample known goal old back (by_at m)
    → MakersDone p probed sample known goal new (back + 1) (by_at m')
set_done p probed sample known goal put back some is old new m m' puts is_so noted done = record {
  at_goal = λ l. of_goal (cases_lt 0 back);
  reaches = λ set d at. of_set set (one_more goal back put set puts.back_near puts.place d) at;
  each = λ i l. makers_step p probed sample known goal put back i some is old new (by_at m i) (by_at m' i) puts (λ x. is_so ∙ or_left some (back == 0) x) (noted.each i l) (done.each i l);
}
  where
    of_goal : (0 < back) ⊎ (back ≤ 0) → reaching_at new goal ≡ true
    of_goal (inl l) = let a = puts.back_near in let b = puts.place in puts.others goal (λ q. absurd (omega (arith, l, a, b, q))) ∙ done.at_goal l
    of_goal (inr l) =
        let z : back ≡ 0 = omega (arith, l) in
        let b = puts.place in
        let e : put ≡ goal = same_set put goal (omega (arith, z, b)) in
        ap (reaching_at new) (sym e) ∙ puts.here ∙ is_so ∙ or_true some (back == 0) (ap (λ n. n == 0) z)

    of_put : (some ≡ true) ⊎ ((back == 0) ≡ true) → ReachesOn p probed sample known goal new put
    of_put (inl s) = some_kept p probed sample known goal put put back is old new puts (omega arith) (noted.found s)
    of_put (inr z) = let k = is_at_goal back z in let b = puts.place in inl (same_set put goal (omega (arith, k, b)))

    of_set : (set : Places) → (set ≡ put) ⊎ IsDone goal back set → reaching_at new set ≡ true → ReachesOn p probed sample known goal new set
    of_set set (inl q) at = subst (ReachesOn p probed sample known goal new) (sym q) (of_put (split is some (back == 0) is_so (sym puts.here ∙ ap (reaching_at new) (sym q) ∙ at)))
    of_set set (inr d) at =
        let l = above_put goal back put set puts.back_near puts.place d in
        reach_kept p probed sample known goal put set back is old new puts (omega (arith, l)) (done.reaches set d (sym (puts.others set (λ q. absurd (omega (arith, l, q)))) ∙ at))
