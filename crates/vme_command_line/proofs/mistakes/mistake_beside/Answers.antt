use Rattle.std.proofs.Common.{◌≡◌, ◌∙◌, Bool, true, false, List, ℕ, None, ap, sym, refl, if◌then◌else◌}
use Rattle.std.specs.List.{list_any}
use Rattle.vme_goals.specs.Goals.{aim_of, all_misses}
use Rattle.vme_command_line.specs.declared.mistakes.Mistake.{Mistake}
use Rattle.vme_command_line.specs.declared.mistakes.Mistake.TheVariants.{Level}
use Rattle.vme_command_line.specs.Mistakes as spec
use Rattle.vme_command_line.proofs.mistakes.mistake_beside.Goals as goal

levelless : (t : Bool) (m : Mistake) → t ≡ false → m ≡ (if t then Level else m)
levelless false m h = refl
levelless true m h = absurd (cc)

pub returns-in-None-2 : goal.returns-in-None-2
returns-in-None-2 c =
    let words : List ℕ = c.args.words.now in
    let none : list_any (spec.is_levelled words) all_misses ≡ false =
    sym (c.have_any_level.ensures ∙ ap (λ (w : List ℕ). list_any (spec.is_levelled w) all_misses) c.as_bytes.ensures.value) ∙ c.if-have_any_level.false in
    let aim = sym c.in-None.is ∙ c.aim_of.ensures ∙ ap (aim_of words) c.other.ensures in
    c.mistake_without.ensures ∙ ap spec.mistake_without c.as_bytes-in-None-2.ensures.value
    ∙ levelless (list_any (spec.is_levelled words) all_misses) (spec.mistake_without words) none
    ∙ ap (λ a. spec.mistake_by a words) aim
