-- Every accepted edge is counted for one rule.
use Rattle.std.proofs.Common.{◌≡◌, ◌∙◌, refl, sym, ap, ℕ, ◌+◌, Bool, true, false, List, [], ◌∷◌, arith}
use Rattle.std.specs.Prelude.{◌==◌, ◌&&◌, count_by, sum_by, if◌then◌else◌}
use Rattle.std.proofs.lemmas.List.Sums.{sum_by-cons}
use Rattle.vme_model.specs.declared.signals.Wire.{Wire}
use Rattle.vme_model.specs.declared.signals.Wire.TheVariants.{Bg, Bclr, Iack, Berr, Br, BgOut, Bbsy, Addr, AddressStrobe, DataStrobe, Irq, IackOut, Dtack}
use Rattle.vme_model.specs.declared.signals.Edge.{Edge}
use Rattle.vme_model.specs.Plan.{up_to}
use Rattle.vme_model.specs.Readings.{readings}
use Rattle.vme_model.specs.Verdict.{State, after}
use Rattle.vme_tallies.specs.Tally.{Answered, Answers, answered_edge, answered_on, answered, is_accepted, accepted, passed_by}
use Rattle.vme_tallies.specs.Tallied.{rule_number}
use Rattle.vme_tallies.proofs.Counted.{count_step}
use Rattle.vme_tallies.proofs.OneMore.{numbered}

-- counts of several kinds, and what an edge adds to all of them
counts_step : (p : ℕ → Answered → Bool) (a : Answered) (t : Answers) (ks : List ℕ) → sum_by (λ k. count_by (p k) (a ∷ t)) ks ≡ sum_by (λ k. if p k a then 1 else 0) ks + sum_by (λ k. count_by (p k) t) ks
counts_step p a t [] = omega arith
counts_step p a t (k ∷ ks) =
    let all = sum_by-cons (λ k. count_by (p k) (a ∷ t)) k ks in
    let one = sum_by-cons (λ k. if p k a then 1 else 0) k ks in
    let rest = sum_by-cons (λ k. count_by (p k) t) k ks in
    let here = count_step (p k) a t in
    let others = counts_step p a t ks in
    omega (arith, all, one, rest, here, others)

-- one of the numbers from 1 to 26 is that of its rule
one_rule : (o : Bool) (w : Wire) (fall : Bool) → sum_by (λ k. if o && rule_number w fall == k then 1 else 0) (up_to 26) ≡ (if o then 1 else 0)
one_rule false w fall = refl
one_rule true (Bg level) true = refl
one_rule true (Bg level) false = refl
one_rule true Bclr true = refl
one_rule true Bclr false = refl
one_rule true Iack true = refl
one_rule true Iack false = refl
one_rule true Berr true = refl
one_rule true Berr false = refl
one_rule true Br true = refl
one_rule true Br false = refl
one_rule true BgOut true = refl
one_rule true BgOut false = refl
one_rule true Bbsy true = refl
one_rule true Bbsy false = refl
one_rule true Addr true = refl
one_rule true Addr false = refl
one_rule true AddressStrobe true = refl
one_rule true AddressStrobe false = refl
one_rule true DataStrobe true = refl
one_rule true DataStrobe false = refl
one_rule true Irq true = refl
one_rule true Irq false = refl
one_rule true IackOut true = refl
one_rule true IackOut false = refl
one_rule true Dtack true = refl
one_rule true Dtack false = refl

one_more : (b : State) (e : Edge) (t : Answers) → sum_by (λ k. passed_by k t) (up_to 26) ≡ accepted t → sum_by (λ k. passed_by k (answered_edge b e ∷ t)) (up_to 26) ≡ accepted (answered_edge b e ∷ t)
one_more b e t before =
    let a = answered_edge b e in
    let step = counts_step (λ k x. is_accepted x && x.rule == k) a t (up_to 26) in
    let own = ap (λ n. sum_by (λ k. if is_accepted a && n == k then 1 else 0) (up_to 26)) (numbered b.version (readings b.plan b.history e.driver) e.wire e.fall e.value) ∙ one_rule (is_accepted a) e.wire e.fall in
    step ∙ ap (λ n. n + sum_by (λ k. passed_by k t) (up_to 26)) own ∙ ap (λ n. (if is_accepted a then 1 else 0) + n) before ∙ sym (count_step is_accepted a t)

all_on : (b : State) (t : Answers) (es : List Edge) → sum_by (λ k. passed_by k t) (up_to 26) ≡ accepted t → sum_by (λ k. passed_by k (answered_on b t es)) (up_to 26) ≡ accepted (answered_on b t es)
all_on b t [] before = before
all_on b t (e ∷ es) before = all_on (after b e) (answered_edge b e ∷ t) es (one_more b e t before)

pub by_one_rule_each : (b : State) (es : List Edge) → sum_by (λ k. passed_by k (answered b es)) (up_to 26) ≡ accepted (answered b es)
by_one_rule_each b es = all_on b [] es refl
