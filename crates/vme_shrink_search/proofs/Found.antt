-- Lists of which nothing can be left out are stories.
use Rattle.std.proofs.Common.{◌≡◌, ◌≢◌, ◌⊎◌, inl, inr, ◌<◌, ◌≤◌, ◌+◌, ◌-◌, ◌*◌, ◌^◌, ◌++◌, [], ℕ, zero, suc, List, Option, Ok, Err, length, take, drop, reverse, refl, sym, ◌∙◌, ap, subst, arith}
use Rattle.std.proofs.lemmas.Bool.{cases_lt}
use Rattle.std.proofs.lemmas.List.{length-reverse}
use Rattle.std.proofs.lemmas.Nat.{pow_pos}
use Rattle.vme_model.specs.declared.deliveries.Delivery.{Delivery}
use Rattle.vme_model.specs.declared.refusals.Refused.TheVariants.{NoSuchDriver, AlreadyThere, Rule, NotSettled, TraceFull}
use Rattle.vme_model.specs.declared.signals.Edge.{Edge}
use Rattle.vme_model.specs.Deliveries.{delivery, with_delivery}
use Rattle.vme_model.specs.Verdict.{State, IsLegal, Judgement, verdict, kept}
use Rattle.vme_shrink_search.specs.Replies.{Reply, reply, reply_at}
use Rattle.vme_shrink_search.specs.Stories.{IsFound, IsPart, IsStory, IsTight, IsTightAt, accepted, without}
use Rattle.vme_shrink_search.proofs.Alike.{decided}
use Rattle.vme_shrink_search.proofs.Legal.{full_at_end, legal_accepted, list_fits, list_legal}
use Rattle.vme_shrink_search.proofs.Lists.{accepted_again, kept_accepted, kept_max, without_few}
use Rattle.vme_shrink_search.proofs.Parts.{part_of_part, part_same, without_part}

-- what is said with a stretch left out
pub reply_left : (b : State) (g : List Edge) (e : Edge) (from to : ℕ) → b.history ≡ []
    → reply b (without b g from to) e ≡ reply_at (kept b (take from g ++ drop to g)) e
reply_left b g e from to none =
    ap (λ (s : State). reply_at s e) (kept_accepted b (take from g ++ drop to g) none)

-- ---- stretches of one edge

from_one : (n i : ℕ) → i < n → n - (n - 1 - i + 1) * 1 ≡ i
from_one n i lt = omega arith

to_one : (n i : ℕ) → i < n → n - (n - 1 - i) * 1 ≡ i + 1
to_one n i lt = omega arith

least_at : (b : State) (e : Edge) (g : List Edge) → IsTightAt b e 1 g → (i : ℕ) → i < length g
    → reply b (without b g i (i + 1)) e ≢ reply b g e
least_at b e g tight i lt =
    subst (λ n. reply b (without b g i n) e ≢ reply b g e) (to_one (length g) i lt)
    (subst (λ n. reply b (without b g n (length g - (length g - 1 - i) * 1)) e ≢ reply b g e)
    (from_one (length g) i lt)
    (tight (length g - 1 - i) (omega arith)))

pub story_of : (b : State) (h : List Edge) (e : Edge) (g : List Edge) → b.history ≡ []
    → accepted b g ≡ g → IsPart g h → reply b g e ≡ reply b h e
    → ((i : ℕ) → i < length g → reply b (without b g i (i + 1)) e ≢ reply b g e)
    → IsStory b h e g
story_of b h e g none whole part same least = record {
  part = part;
  legal = list_legal b g none whole;
  fits = list_fits b g none whole;
  same = same;
  least = λ i lt is. least i lt (is ∙ sym same);
}

pub found_by : (b : State) (h : List Edge) (e : Edge) (g : List Edge) → b.history ≡ []
    → accepted b g ≡ g → IsPart g h → reply b g e ≡ reply b h e → IsTight b e g
    → (IsTight b e h → g ≡ h) → IsFound b h e g
found_by b h e g none whole part same tight still = record {
  story = story_of b h e g none whole part same (least_at b e g (tight 0));
  tight = tight;
  still = still;
}

-- ---- at E5 nothing can be left out

refused_full : (j : Judgement) (d : Option Delivery) → with_delivery j d ≡ Err TraceFull
    → j ≡ Err TraceFull
refused_full (Ok u) d h = absurd (cc)
refused_full (Err NoSuchDriver) d h = absurd (cc)
refused_full (Err AlreadyThere) d h = absurd (cc)
refused_full (Err (Rule n)) d h = absurd (cc)
refused_full (Err (NotSettled n)) d h = absurd (cc)
refused_full (Err TraceFull) d h = refl

-- behind a list that lasts it is full at its end
full_list : (b : State) (g : List Edge) (e : Edge) → b.history ≡ [] → accepted b g ≡ g
    → (reply b g e).answer ≡ Err TraceFull → length g ≡ b.max
full_list b g e none whole full =
    let s : State = kept b g in
    let at_end = full_at_end s e
    (refused_full (verdict s e) (delivery s.plan s.history e) full) in
    let same : length g ≡ length s.history = ap length (sym whole) ∙ length-reverse s.history in
    same ∙ at_end ∙ kept_max b g

shorter_reply : (b : State) (h : List Edge) (e : Edge) (from to : ℕ) → b.history ≡ []
    → accepted b h ≡ h → (reply b h e).answer ≡ Err TraceFull → from < to → to ≤ length h
    → reply b (without b h from to) e ≢ reply b h e
shorter_reply b h e from to none whole full lt within same =
    let left = without_few b h from to none lt within in
    let n = full_list b h e none whole full in
    let m = full_list b (without b h from to) e none
    (accepted_again b (take from h ++ drop to h) none)
    (ap (λ (t : Reply). t.answer) same ∙ full) in
    omega (arith, left, n, m)

more_of : (n p : ℕ) → (n + 1) * p ≡ n * p + p
more_of n p = omega arith

ends_before : (all x p : ℕ) → x < all → zero < p → all - (x + p) < all - x
ends_before all x p lt pos = omega arith

pub tight_full : (b : State) (h : List Edge) (e : Edge) → b.history ≡ [] → accepted b h ≡ h
    → (reply b h e).answer ≡ Err TraceFull → IsTight b e h
tight_full b h e none whole full k n lt =
    shorter_reply b h e (length h - (n + 1) * 2 ^ k) (length h - n * 2 ^ k) none whole full
    (subst (λ x. length h - x < length h - n * 2 ^ k) (sym (more_of n (2 ^ k)))
    (ends_before (length h) (n * 2 ^ k) (2 ^ k) lt (pow_pos k)))
    (omega arith)

pub found_full : (b : State) (h : List Edge) (e : Edge) → b.history ≡ [] → accepted b h ≡ h
    → (reply b h e).answer ≡ Err TraceFull → IsFound b h e h
found_full b h e none whole full =
    found_by b h e h none whole (part_same h) refl (tight_full b h e none whole full) (λ tight. refl)

-- ---- every legal list has a story

-- an edge that can be left out, or none
abbrev HasMore : State → List Edge → Edge → List Edge → Type 0
HasMore b h e g = (i : ℕ) × (i < length g) × (reply b (without b g i (i + 1)) e ≡ reply b g e)

abbrev HasNone : State → List Edge → Edge → List Edge → ℕ → Type 0
HasNone b h e g n = (i : ℕ) → i < n → reply b (without b g i (i + 1)) e ≢ reply b g e

none_more : (b : State) (h : List Edge) (e : Edge) (g : List Edge) (n : ℕ) → HasNone b h e g n
    → reply b (without b g n (n + 1)) e ≢ reply b g e → HasNone b h e g (n + 1)
none_more b h e g n none last i lt =
    by (cases_lt i n)
  where
    by : (i < n) ⊎ (n ≤ i) → reply b (without b g i (i + 1)) e ≢ reply b g e
    by (inl below) = none i below
    by (inr above) =
        let is : n ≡ i = omega arith in
        subst (λ m. reply b (without b g m (m + 1)) e ≢ reply b g e) is last

step_by : (b : State) (h : List Edge) (e : Edge) (g : List Edge) (n : ℕ) → n + 1 ≤ length g
    → HasNone b h e g n
    → (reply b (without b g n (n + 1)) e ≡ reply b g e)
    ⊎ (reply b (without b g n (n + 1)) e ≡ reply b g e → ⊥)
    → HasMore b h e g ⊎ HasNone b h e g (n + 1)
step_by b h e g n within none (inl same) = inl (n, omega arith, same)
step_by b h e g n within none (inr other) = inr (none_more b h e g n none other)

on_by : (b : State) (h : List Edge) (e : Edge) (g : List Edge) (n : ℕ) → n + 1 ≤ length g
    → HasMore b h e g ⊎ HasNone b h e g n → HasMore b h e g ⊎ HasNone b h e g (n + 1)
on_by b h e g n within (inl more) = inl more
on_by b h e g n within (inr none) =
    step_by b h e g n within none (decided (reply b (without b g n (n + 1)) e) (reply b g e))

one_more : (n : ℕ) → n + 1 ≡ suc n
one_more n = omega arith

one_or_none : (b : State) (h : List Edge) (e : Edge) (g : List Edge) (n : ℕ) → n ≤ length g
    → HasMore b h e g ⊎ HasNone b h e g n
one_or_none b h e g zero within = inr (λ i lt. absurd (omega arith))
one_or_none b h e g (suc n) within =
    subst (λ m. HasMore b h e g ⊎ HasNone b h e g m) (one_more n)
    (on_by b h e g n (omega arith) (one_or_none b h e g n (omega arith)))

abbrev HasStory : State → List Edge → Edge → Type 0
HasStory b h e = (g : List Edge) × IsStory b h e g

story_by : (b : State) (h : List Edge) (e : Edge) (g : List Edge) → b.history ≡ []
    → accepted b g ≡ g → IsPart g h → reply b g e ≡ reply b h e
    → ((f : List Edge) → length f < length g → accepted b f ≡ f → IsPart f h
    → reply b f e ≡ reply b h e → HasStory b h e)
    → HasMore b h e g ⊎ HasNone b h e g (length g) → HasStory b h e
story_by b h e g none whole part same shorter (inl more) =
    let i = more.0 in
    shorter (without b g i (i + 1))
    (without_few b g i (i + 1) none (omega arith) (let lt = more.1 in omega arith))
    (accepted_again b (take i g ++ drop (i + 1) g) none)
    (part_of_part (without b g i (i + 1)) g h (without_part b g i (i + 1) none (omega arith)) part)
    (more.2 ∙ same)
story_by b h e g none whole part same shorter (inr least) =
    (g, story_of b h e g none whole part same least)

within : (m : ℕ) (b : State) (h : List Edge) (e : Edge) (g : List Edge) → length g < m
    → b.history ≡ [] → accepted b g ≡ g → IsPart g h → reply b g e ≡ reply b h e → HasStory b h e
within zero b h e g few none whole part same = absurd (omega arith)
within (suc m) b h e g few none whole part same =
    story_by b h e g none whole part same
    (λ f lt. within m b h e f (omega arith) none)
    (one_or_none b h e g (length g) (omega arith))

pub has_story : (b : State) (h : List Edge) (e : Edge) → b.history ≡ []
    → IsLegal b.version b.plan (reverse h) → length h ≤ b.max
    → (g : List Edge) × IsStory b h e g
has_story b h e none legal fits =
    within (length h + 1) b h e h (omega arith) none (legal_accepted b h none legal fits)
    (part_same h) refl
