-- `comes`: a situation is one of those that an edge brings about where its test holds.
use Rattle.std.proofs.Common.{◌≡◌, ◌∙◌, Bool, true, false, List, [], ◌∷◌, refl, sym, ap}
use Rattle.std.specs.Prelude.{◌||◌, filter, if◌then◌else◌}
use Rattle.std.specs.List.{list_any}
use Rattle.std.proofs.lemmas.List.Folds.{list_any_at}
use denote.Enum.Bare.{same_true, true_same}
use Rattle.vme_goals.specs.contracts.events.Event.{the_type}
use Rattle.vme_goals.specs.declared.events.Event.{Event}
use Rattle.vme_goals.specs.Events.{all_events, event_index, is_same_event}
use Rattle.vme_goals.proofs.Placed.{index_below, stands}

abbrev is : Event → Event → Bool
is x y = is_same_event y x

same : (x y : Event) → is x y ≡ true → y ≡ x
same x y e = same_true the_type tt y x e

or_true : (b : Bool) → (b || true) ≡ true
or_true true = refl
or_true false = refl

-- where its test fails it is none of them
none : (f : Event → Bool) (x : Event) (xs : List Event) → f x ≡ false → list_any (is x) (filter f xs) ≡ false
none f x [] fails = refl
none f x (y ∷ ys) fails = one (f y) (is x y) refl refl (none f x ys fails)
  where
    one : (a b : Bool) → f y ≡ a → is x y ≡ b → list_any (is x) (filter f ys) ≡ false → list_any (is x) (if a then y ∷ filter f ys else filter f ys) ≡ false
    one false b p q n = n
    one true false p q n = ap (λ t. t || list_any (is x) (filter f ys)) q ∙ n
    one true true p q n = absurd (let e : true ≡ false = sym p ∙ ap f (same x y q) ∙ fails in cc)

-- and where it holds it is one
some : (f : Event → Bool) (x : Event) (xs : List Event) → f x ≡ true → list_any (is x) xs ≡ true → list_any (is x) (filter f xs) ≡ true
some f x [] holds among = among
some f x (y ∷ ys) holds among = one (f y) (is x y) refl refl among (λ n. some f x ys holds n)
  where
    one : (a b : Bool) → f y ≡ a → is x y ≡ b → (b || list_any (is x) ys) ≡ true → (list_any (is x) ys ≡ true → list_any (is x) (filter f ys) ≡ true)
        → list_any (is x) (if a then y ∷ filter f ys else filter f ys) ≡ true
    one true true p q n g = ap (λ t. t || list_any (is x) (filter f ys)) q
    one true false p q n g = ap (λ t. is x y || t) (g n) ∙ or_true (is x y)
    one false false p q n g = g n
    one false true p q n g = absurd (let e : false ≡ true = sym p ∙ ap f (same x y q) ∙ holds in cc)

named : (x : Event) → list_any (is x) all_events ≡ true
named x = list_any_at (is x) all_events (event_index x) x (index_below x) (true_same the_type _ _ (stands x x))

pub among_all : (f : Event → Bool) (x : Event) → list_any (is x) (filter f all_events) ≡ f x
among_all f x = one (f x) refl
  where
    one : (a : Bool) → f x ≡ a → list_any (is x) (filter f all_events) ≡ f x
    one true holds = some f x all_events holds (named x) ∙ sym holds
    one false fails = none f x all_events fails ∙ sym fails
