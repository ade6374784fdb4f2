use Rattle.std.proofs.Common.{◌≡◌, ◌∙◌, ◌<◌, ◌≤◌, ℕ, true, false, refl, sym, arith}
use Rattle.std.specs.Prelude.{Some, nat_lt}
use Rattle.std.proofs.lemmas.Bool.Decides.{nat_tests}
use Rattle.vme_model.specs.Plan.{Plan}
use Rattle.vme_model.proofs.Bools.{and_left}
use Rattle.vme_standings.specs.declared.phases.GrantPhase.{GrantPhase}
use Rattle.vme_standings.specs.declared.phases.GrantPhase.TheVariants.{Idle, Granting, Held, Expired}
use Rattle.vme_standings.specs.declared.phases.GrantPhases.{GrantPhases}
use Rattle.vme_standings.specs.Cuts.{is_nowhere}
use Rattle.vme_standings.specs.Phases.{has_phase, is_in_table, level_of}
use Rattle.vme_standings.proofs.phases.GrantPhases.may_be_nowhere.Goals as goal

near : (c n k : ℕ) → nat_lt c n ≡ true → n ≤ k → c < k
near c n k e l = grind (arith, nat_tests)

-- a set in which nobody holds the bus, and none of whose levels has such a phase
none_of : (p : Plan) (s : GrantPhases) (k : ℕ) → 4 ≤ k → ((b first : ℕ) → b < 22 → has_phase s (Held b first) ≡ true → false ≡ true)
    → ((q : GrantPhase) (c : ℕ) → c < k → level_of q ≡ Some c → is_nowhere p q ≡ true → has_phase s q ≡ false)
    → (q : GrantPhase) → is_in_table q ≡ true → has_phase s q ≡ true → is_nowhere p q ≡ true → false ≡ true
none_of p s k all held free (Idle c) table h nowhere = sym (free (Idle c) c (near c 4 k table all) refl nowhere) ∙ h
none_of p s k all held free (Granting c t) table h nowhere =
    sym (free (Granting c t) c (near c 4 k (and_left (nat_lt c 4) (nat_lt t 22) table) all) refl nowhere) ∙ h
none_of p s k all held free (Held b t) table h nowhere = held b t (near b 22 22 (and_left (nat_lt b 22) (nat_lt t 22) table) (omega arith)) h
none_of p s k all held free (Expired c t) table h nowhere =
    sym (free (Expired c t) c (near c 4 k (and_left (nat_lt c 4) (nat_lt t 22) table) all) refl nowhere) ∙ h

pub returns-then-is_held-clause-some : goal.returns-then-is_held-clause-some
returns-then-is_held-clause-some c _ =
    let w = c.is_some-is_held.ensures.some c.if-is_held.true in
    let v = c.holders-holders.ensures.some w.0 w.1 in
    (Held w.0 v.1.0, v.1.1, refl)

pub returns-clause-all : goal.returns-clause-all
returns-clause-all c q table h nowhere =
    none_of c.args.plan.now c.args.self.now c.loop-level.level c.loop-level-test.false
    (λ b first l e. sym c.if-is_held.false ∙ c.is_some-is_held.ensures.none b (c.holders-holders.ensures.all b first l e))
    c.loop-level.invariant q table h nowhere
