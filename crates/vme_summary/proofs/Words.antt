-- Words that are put together one after the other, and the topics of a summary.
use Rattle.std.proofs.Common.{◌≡◌, ◌∙◌, refl, sym, ap, ℕ, zero, suc, ◌+◌, ◌<◌, Bool, true, false, List, [], ◌∷◌, ◌++◌, length, append-nil, append_assoc, arith}
use Rattle.std.specs.Prelude.{◌==◌, not, map, filter, nat_lt, if◌then◌else◌, codes, decimal}
use Rattle.std.specs.List.{All, flat_map, list_all}
use Rattle.std.proofs.lemmas.Bool.{and_parts}
use Rattle.std.proofs.lemmas.Bool.Decides.{nat_tests}
use Rattle.std.proofs.lemmas.List.{map-append}
use Rattle.std.proofs.lemmas.List.Concat.{flat_map-append}
use Rattle.std.proofs.lemmas.List.Elements.{All-cons, All-nil, filter-append}
use Rattle.vme_model.specs.declared.refusals.Refused.{Refused}
use Rattle.vme_model.specs.declared.refusals.Refused.TheVariants as refused
use Rattle.vme_model.specs.Plan.{up_to}
use Rattle.vme_goals.specs.declared.events.Event.{Event}
use Rattle.vme_goals.specs.Events.{all_events, event_text}
use Rattle.vme_summary.specs.declared.topics.Topic.{Topic}
use Rattle.vme_summary.specs.declared.topics.Topic.TheVariants as topic
use Rattle.vme_summary.specs.Tally.{Answers, is_accepted, accepted, refused}
use Rattle.vme_summary.specs.Tallied.{IsNamed, IsTopic}
use Rattle.vme_summary.specs.Summary.{events_without, rules_without, topics}
use Rattle.vme_summary.proofs.Counted.{count_yes, count_no}

-- every edge is accepted or refused
pub each_once : (t : Answers) → accepted t + refused t ≡ length t
each_once [] = omega arith
each_once (a ∷ t) = at (is_accepted a) refl (each_once t)
  where
    at : (b : Bool) → is_accepted a ≡ b → accepted t + refused t ≡ length t → accepted (a ∷ t) + refused (a ∷ t) ≡ length (a ∷ t)
    at true is before = let more = count_yes is_accepted a t is in let same = count_no (λ x. not (is_accepted x)) a t (ap not is) in omega (arith, before, more, same)
    at false is before = let same = count_no is_accepted a t is in let more = count_yes (λ x. not (is_accepted x)) a t (ap not is) in omega (arith, before, more, same)

-- the words of those that pass, and of one more
pub word_more : {X : Type 0} (f : X → List ℕ) (p : X → Bool) (xs : List X) (x : X) (o n : List ℕ) (b : Bool) → p x ≡ b → o ≡ flat_map f (filter p xs) → n ≡ o ++ (if b then f x else [])
    → n ≡ flat_map f (filter p (xs ++ x ∷ []))
word_more {X} f p xs x o n b is before after =
    after ∙ ap (λ l. l ++ (if b then f x else [])) before
    ∙ ap (λ l. flat_map f (filter p xs) ++ l) (at b)
    ∙ ap (λ (c : Bool). flat_map f (filter p xs) ++ flat_map f (if c then x ∷ [] else [])) (sym is)
    ∙ sym (flat_map-append f (filter p xs) (filter p (x ∷ [])))
    ∙ ap (flat_map f) (sym (filter-append p xs (x ∷ [])))
  where
    at : (b : Bool) → (if b then f x else []) ≡ flat_map f (if b then x ∷ [] else [])
    at true = sym (append-nil (f x))
    at false = refl

pub up_to_more : (n : ℕ) → up_to n ++ (n + 1) ∷ [] ≡ up_to (n + 1)
up_to_more n = let next : suc n ≡ n + 1 = omega arith in ap (λ m. up_to n ++ m ∷ []) (sym next) ∙ ap up_to next

-- what is printed about the numbers from 1, and of one more
pub numbered_more : {X : Type 0} (f : ℕ → X) (xs : List X) (n : ℕ) → (xs ++ map f (up_to n)) ++ f (n + 1) ∷ [] ≡ xs ++ map f (up_to (n + 1))
numbered_more f xs n =
    append_assoc xs (map f (up_to n)) (f (n + 1) ∷ [])
    ∙ ap (λ l. xs ++ l) (sym (map-append f (up_to n) ((n + 1) ∷ [])) ∙ ap (map f) (up_to_more n))

-- counts that are the same leave the same out
pub same_rules : (f g : ℕ → ℕ) → ((k : ℕ) → k < 27 → f k ≡ g k) → rules_without f ≡ rules_without g
same_rules f g same = ap (flat_map (λ k. codes " G" ++ decimal k)) (up_to_same 26 (omega arith))
  where
    up_to_same : (n : ℕ) → n < 27 → filter (λ k. f k == 0) (up_to n) ≡ filter (λ k. g k == 0) (up_to n)
    up_to_same zero within = refl
    up_to_same (suc n) within =
        filter-append (λ k. f k == 0) (up_to n) (suc n ∷ [])
        ∙ ap (λ (l : List ℕ). l ++ filter (λ k. f k == 0) (suc n ∷ [])) (up_to_same n (omega (arith, within)))
        ∙ ap (λ m. filter (λ k. g k == 0) (up_to n) ++ (if m == 0 then suc n ∷ [] else [])) (same (suc n) within)
        ∙ sym (filter-append (λ k. g k == 0) (up_to n) (suc n ∷ []))

pub same_events : (f g : Event → ℕ) → ((v : Event) → f v ≡ g v) → events_without f ≡ events_without g
same_events f g same = ap (flat_map (λ v. codes " " ++ event_text v)) (filter_same all_events)
  where
    filter_same : (vs : List Event) → filter (λ v. f v == 0) vs ≡ filter (λ v. g v == 0) vs
    filter_same [] = refl
    filter_same (v ∷ vs) =
        ap (λ m. if m == 0 then v ∷ filter (λ v. f v == 0) vs else filter (λ v. f v == 0) vs) (same v)
        ∙ ap (λ (l : List Event). if g v == 0 then v ∷ l else l) (filter_same vs)

-- every topic is one that there can be
is_named : Refused → Bool
is_named (refused.Rule k) = nat_lt k 27
is_named (refused.NotSettled k) = nat_lt k 5
is_named _ = true

is_topic : Topic → Bool
is_topic (topic.Rule k) = nat_lt k 27
is_topic (topic.Refusal r) = is_named r
is_topic (topic.Board s) = nat_lt s 22
is_topic (topic.Answered s) = nat_lt s 22
is_topic _ = true

below : (n m : ℕ) → nat_lt n m ≡ true → n < m
below n m is = grind (arith, nat_tests, is)

named : (r : Refused) → is_named r ≡ true → IsNamed r
unfolding is_named
named (refused.Rule k) is = below k 27 is
named (refused.NotSettled k) is = below k 5 is
named refused.NoSuchDriver is = tt
named refused.AlreadyThere is = tt
named refused.TraceFull is = tt

one_topic : (x : Topic) → is_topic x ≡ true → IsTopic x
unfolding is_topic
one_topic (topic.Rule k) is = below k 27 is
one_topic (topic.Refusal r) is = named r is
one_topic (topic.Board s) is = below s 22 is
one_topic (topic.Answered s) is = below s 22 is
one_topic topic.Edges is = tt
one_topic topic.NeverAccepted is = tt
one_topic (topic.Met v) is = tt
one_topic topic.NeverMet is = tt

every_topic : (xs : List Topic) → list_all is_topic xs ≡ true → All IsTopic xs
every_topic [] is = All-nil IsTopic
every_topic (x ∷ xs) is =
    let parts = and_parts (is_topic x) (list_all is_topic xs) is in All-cons IsTopic x xs (one_topic x parts.0) (every_topic xs parts.1)

pub all_topics : All IsTopic topics
unfolding all_events is_topic is_named
all_topics = every_topic topics refl
