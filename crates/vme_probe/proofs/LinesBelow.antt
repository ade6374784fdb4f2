-- One line more in a loop over slots or levels: `answers`.
use Rattle.std.proofs.Common.{◌≡◌, ◌∙◌, ◌+◌, ◌||◌, ◌++◌, ℕ, Bool, List, Option, sym, ap, append_assoc, add-one}
use Rattle.vme_model.specs.declared.signals.Driver.TheVariants.{Slot}
use Rattle.vme_model.specs.Plan.{Plan}
use Rattle.vme_captures.specs.declared.signals.Line.TheVariants as line
use Rattle.vme_standings.specs.declared.standings.Standings.{Standings}
use Rattle.vme_standings.specs.GrantChains.{is_of_level}
use Rattle.vme_probe.specs.declared.obstacles.Obstacle.{Obstacle}
use Rattle.vme_probe.specs.Ends.{br_lines, irq_lines, may_pull, pulled_line}
use Rattle.vme_probe.specs.Stopped.{is_ours_if, lines_below, obstacle_text, ours_below}

module _ (found : ℕ → Option Obstacle) (n : ℕ) (o : Option Obstacle) (same : o ≡ found n) where
  pub obstacle_more : (a old new : List ℕ) → old ≡ a ++ lines_below found n → new ≡ old ++ obstacle_text (Slot n) o → new ≡ a ++ lines_below found (n + 1)
  obstacle_more a old new h is =
      rw (add-one n)
      (is ∙ ap (λ (l : List ℕ). l ++ obstacle_text (Slot n) o) h ∙ append_assoc a (lines_below found n) (obstacle_text (Slot n) o)
      ∙ ap (λ x. a ++ (lines_below found n ++ obstacle_text (Slot n) x)) same)

  pub ours_more : (old new mine : Bool) → old ≡ ours_below found n → mine ≡ is_ours_if o → new ≡ (old || mine) → new ≡ ours_below found (n + 1)
  ours_more old new mine h m is =
      rw (add-one n) (is ∙ ap (λ b. b || mine) h ∙ ap (λ b. ours_below found n || b) (m ∙ ap (λ x. is_ours_if x) same))

next_irq : (p : Plan) (st : Standings) (n : ℕ) → irq_lines p st n ++ pulled_line st (line.Irq (n + 1)) (may_pull p st (n + 1)) ≡ irq_lines p st (n + 1)
next_irq p st n = ap (λ k. irq_lines p st k) (sym (add-one n))

module _ (p : Plan) (st : Standings) (n : ℕ) (pulls : ℕ → Bool) (a old new : List ℕ) where
  pub br_more : ((s : ℕ) → pulls s ≡ is_of_level p n s) → old ≡ a ++ br_lines p st n → new ≡ old ++ pulled_line st (line.Br n) pulls → new ≡ a ++ br_lines p st (n + 1)
  br_more same h is =
      let e : pulls ≡ is_of_level p n = λ i. λ s. same s i in
      rw (add-one n)
      (is ∙ ap (λ (l : List ℕ). l ++ pulled_line st (line.Br n) pulls) h ∙ append_assoc a (br_lines p st n) (pulled_line st (line.Br n) pulls)
      ∙ ap (λ (t : ℕ → Bool). a ++ (br_lines p st n ++ pulled_line st (line.Br n) t)) e)

  pub irq_more : ((s : ℕ) → pulls s ≡ may_pull p st (n + 1) s) → old ≡ a ++ irq_lines p st n → new ≡ old ++ pulled_line st (line.Irq (n + 1)) pulls → new ≡ a ++ irq_lines p st (n + 1)
  irq_more same h is =
      let e : pulls ≡ may_pull p st (n + 1) = λ i. λ s. same s i in
      let t : new ≡ a ++ (irq_lines p st n ++ pulled_line st (line.Irq (n + 1)) (may_pull p st (n + 1))) =
      is ∙ ap (λ (l : List ℕ). l ++ pulled_line st (line.Irq (n + 1)) pulls) h ∙ append_assoc a (irq_lines p st n) (pulled_line st (line.Irq (n + 1)) pulls)
      ∙ ap (λ (t : ℕ → Bool). a ++ (irq_lines p st n ++ pulled_line st (line.Irq (n + 1)) t)) e in
      t ∙ ap (λ (l : List ℕ). a ++ l) (next_irq p st n)
