-- The first aim that words name is the first event that they name, or the first miss if they name
-- no event.
use Rattle.std.proofs.Common.{◌≡◌, ◌∙◌, refl, ap, ℕ, Bool, true, false, List, [], ◌∷◌, map, Option, Some, None}
use Rattle.std.specs.Prelude.{if◌then◌else◌, find, option_map}
use Rattle.std.specs.Option.{option_or}
use Rattle.std.proofs.lemmas.List.Folds.{find-append}
use Rattle.vme_model.specs.declared.signals.Version.{Version}
use Rattle.vme_goals.specs.declared.events.Event.{Event}
use Rattle.vme_goals.specs.declared.misses.Miss.{Miss}
use Rattle.vme_goals.specs.declared.goals.Aim.TheVariants as aim
use Rattle.vme_goals.specs.Events.{all_events}
use Rattle.vme_goals.specs.Goals.{all_aims, all_misses, aim_of, is_named}

find-map : {X Y : Type 0} (test : Y → Bool) (f : X → Y) (xs : List X) → find test (map f xs) ≡ option_map f (find (λ x. test (f x)) xs)
find-map test f [] = refl
find-map test f (x ∷ xs) = first (test (f x)) (find-map test f xs)
  where
    first : (b : Bool) → find test (map f xs) ≡ option_map f (find (λ x. test (f x)) xs) → (if b then Some (f x) else find test (map f xs))
        ≡ option_map f (if b then Some x else find (λ x. test (f x)) xs)
    first true e = refl
    first false e = e

abbrev event_of : List ℕ → Version → List Event → Option Event
event_of words version es = find (λ e. is_named words version (aim.Event e)) es

abbrev miss_of : List ℕ → Version → List Miss → Option Miss
miss_of words version ms = find (λ m. is_named words version (aim.Miss m)) ms

aim_by : (words : List ℕ) (version : Version) → aim_of words version
    ≡ option_or (option_map (λ e. aim.Event e) (event_of words version all_events)) (option_map (λ m. aim.Miss m) (miss_of words version all_misses))
unfolding all_aims
aim_by words version =
    find-append (is_named words version) (map (λ e. aim.Event e) all_events) (map (λ m. aim.Miss m) all_misses)
    ∙ ap (λ o. option_or o (find (is_named words version) (map (λ m. aim.Miss m) all_misses))) (find-map (is_named words version) (λ e. aim.Event e) all_events)
    ∙ ap (option_or (option_map (λ e. aim.Event e) (event_of words version all_events))) (find-map (is_named words version) (λ m. aim.Miss m) all_misses)

pub event_named : (words : List ℕ) (version : Version) (e : Event) → event_of words version all_events ≡ Some e → aim_of words version ≡ Some (aim.Event e)
event_named words version e h =
    aim_by words version ∙ ap (λ o. option_or (option_map (λ e. aim.Event e) o) (option_map (λ m. aim.Miss m) (miss_of words version all_misses))) h

pub miss_named : (words : List ℕ) (version : Version) → event_of words version all_events ≡ None → aim_of words version ≡ option_map (λ m. aim.Miss m) (miss_of words version all_misses)
miss_named words version h =
    aim_by words version ∙ ap (λ o. option_or (option_map (λ e. aim.Event e) o) (option_map (λ m. aim.Miss m) (miss_of words version all_misses))) h
