-- A guard holds exactly if none of its conditions fails.
use Rattle.std.proofs.Common.{◌≡◌, ◌∙◌, Bool, true, false, List, [], ◌∷◌, ◌++◌, refl, ap, ap₂}
use Rattle.std.specs.Prelude.{◌&&◌, ◌||◌, ◌↔◌, not, if◌then◌else◌, map, filter}
use Rattle.std.specs.List.{list_all}
use Rattle.vme_model.specs.declared.conditions.Condition.{Condition}
use Rattle.vme_model.specs.declared.conditions.Tested.{Tested}
use Rattle.vme_model.specs.Guards.{Guard, free, asks, ◌⊓◌, unless, holds, conditions, failed}
use Rattle.vme_model.proofs.Bools.{and_left, and_right}

none_of_one : (c : Condition) (b : Bool) → b ≡ true → (if b then [] else c ∷ []) ≡ []
none_of_one c true h = refl
none_of_one c false h = cc

one_holds : (c : Condition) (b : Bool) → (if b then [] else c ∷ []) ≡ [] → b ≡ true
one_holds c true h = refl
one_holds c false h = cc

front : (xs ys : List Condition) → xs ++ ys ≡ [] → xs ≡ []
front [] ys h = refl
front (x ∷ xs) ys h = cc

back : (xs ys : List Condition) → xs ++ ys ≡ [] → ys ≡ []
back [] ys h = h
back (x ∷ xs) ys h = cc

both : (a b : Bool) → a ≡ true → b ≡ true → (a && b) ≡ true
both true b e f = f
both false b e f = e

none_where_bound : (b x : Bool) (names : List Condition) → (x ≡ true → names ≡ []) → (b || x) ≡ true → (if b then [] else names) ≡ []
none_where_bound true x names none h = refl
none_where_bound false x names none h = none h

holds_where_bound : (b x : Bool) (names : List Condition) → (names ≡ [] → x ≡ true) → (if b then [] else names) ≡ [] → (b || x) ≡ true
holds_where_bound true x names all h = refl
holds_where_bound false x names all h = all h

pub none_failed : (g : Guard) → holds g ≡ true → failed g ≡ []
none_failed free h = refl
none_failed (asks c b) h = none_of_one c b h
none_failed (g ⊓ k) h = ap₂ ◌++◌ (none_failed g (and_left (holds g) (holds k) h)) (none_failed k (and_right (holds g) (holds k) h))
none_failed (unless b g) h = none_where_bound b (holds g) (failed g) (none_failed g) h

pub all_held : (g : Guard) → failed g ≡ [] → holds g ≡ true
all_held free h = refl
all_held (asks c b) h = one_holds c b h
all_held (g ⊓ k) h = both (holds g) (holds k) (all_held g (front (failed g) (failed k) h)) (all_held k (back (failed g) (failed k) h))
all_held (unless b g) h = holds_where_bound b (holds g) (failed g) (all_held g) h

pub fails_by_conditions : (g : Guard) → (failed g ≡ []) ↔ (holds g ≡ true)
fails_by_conditions g = (all_held g, none_failed g)

one_all : (b : Bool) → b ≡ (b && true)
one_all true = refl
one_all false = refl

and_assoc : (a b c : Bool) → ((a && b) && c) ≡ (a && (b && c))
and_assoc true b c = refl
and_assoc false b c = refl

pub all_append : (xs ys : List Tested) → (list_all (λ c. c.holds) xs && list_all (λ c. c.holds) ys) ≡ list_all (λ c. c.holds) (xs ++ ys)
all_append [] ys = refl
all_append (x ∷ xs) ys = and_assoc x.holds (list_all (λ c. c.holds) xs) (list_all (λ c. c.holds) ys) ∙ ap (λ b. x.holds && b) (all_append xs ys)

all_where_bound : (b x : Bool) (xs : List Tested) → x ≡ list_all (λ c. c.holds) xs → (b || x) ≡ list_all (λ c. c.holds) (if b then [] else xs)
all_where_bound true x xs e = refl
all_where_bound false x xs e = e

pub all_conditions : (g : Guard) → holds g ≡ list_all (λ c. c.holds) (conditions g)
all_conditions free = refl
all_conditions (asks c b) = one_all b
all_conditions (g ⊓ k) = ap₂ ◌&&◌ (all_conditions g) (all_conditions k) ∙ all_append (conditions g) (conditions k)
all_conditions (unless b g) = all_where_bound b (holds g) (conditions g) (all_conditions g)

abbrev names : List Tested → List Condition
names cs = map (λ c. c.condition) (filter (λ c. not c.holds) cs)

one_name : (c : Condition) (b : Bool) → (if b then [] else c ∷ []) ≡ names (record { condition = c; holds = b } ∷ [])
one_name c true = refl
one_name c false = refl

one_more : (c : Condition) (b : Bool) (xs ys : List Tested) → names xs ++ names ys ≡ names (xs ++ ys) → names (record { condition = c; holds = b } ∷ xs) ++ names ys
    ≡ names (record { condition = c; holds = b } ∷ (xs ++ ys))
one_more c true xs ys e = e
one_more c false xs ys e = ap (λ l. c ∷ l) e

names_append : (xs ys : List Tested) → names xs ++ names ys ≡ names (xs ++ ys)
names_append [] ys = refl
names_append (x ∷ xs) ys = one_more x.condition x.holds xs ys (names_append xs ys)

names_where_bound : (b : Bool) (l : List Condition) (xs : List Tested) → l ≡ names xs → (if b then [] else l) ≡ names (if b then [] else xs)
names_where_bound true l xs e = refl
names_where_bound false l xs e = e

pub failed_names : (g : Guard) → failed g ≡ map (λ c. c.condition) (filter (λ c. not c.holds) (conditions g))
failed_names free = refl
failed_names (asks c b) = one_name c b
failed_names (g ⊓ k) = ap₂ ◌++◌ (failed_names g) (failed_names k) ∙ names_append (conditions g) (conditions k)
failed_names (unless b g) = names_where_bound b (failed g) (conditions g) (failed_names g)
