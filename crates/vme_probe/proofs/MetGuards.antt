-- What a condition of a rule that holds says of the guard: `condition_laws`.
use Rattle.std.proofs.Common.{◌≡◌, ◌∙◌, ◌&&◌, ◌||◌, Bool, true, false, not, List, [], ◌∷◌, ◌++◌, refl, sym, ap, arith}
use Rattle.std.specs.Prelude.{if◌then◌else◌}
use Rattle.std.specs.List.{list_any}
use Rattle.std.specs.Option.{option_map_or}
use Rattle.vme_model.specs.declared.conditions.Condition.{Condition}
use Rattle.vme_model.specs.declared.sentences.Rule.{Rule}
use Rattle.vme_model.specs.declared.signals.Edge.{Edge}
use Rattle.vme_model.specs.declared.signals.Version.{Version}
use Rattle.vme_model.specs.Guards.{Guard, free, asks, ◌⊓◌, unless, failed}
use Rattle.vme_model.specs.Plan.{Plan}
use Rattle.vme_model.specs.Readings.{readings}
use Rattle.vme_model.specs.Rules.{failing, guard}
use Rattle.vme_model.specs.Settling.{settling_guard}
use Rattle.vme_model.specs.Sources.{is_same_condition, rule_of, settling_of}
use Rattle.vme_probe.specs.Holding.{fails, is_same_rule}

-- wherever the guard asks for the condition, it holds
abbrev pub met : Condition → Guard → Bool
met c free = true
met c (asks x b) = not (is_same_condition c x) || b
met c (g ⊓ k) = met c g && met c k
met c (unless b g) = b || met c g

any_append : (f : Condition → Bool) (xs ys : List Condition) → list_any f (xs ++ ys) ≡ (list_any f xs || list_any f ys)
any_append f [] ys = refl
any_append f (x ∷ xs) ys = ap (λ b. f x || b) (any_append f xs ys) ∙ assoc (f x) (list_any f xs) (list_any f ys)
  where
    assoc : (a b c : Bool) → (a || (b || c)) ≡ ((a || b) || c)
    assoc true b c = refl
    assoc false b c = refl

-- it fails exactly if it is among those that fail
met_is : (c : Condition) (g : Guard) → met c g ≡ not (list_any (is_same_condition c) (failed g))
met_is c free = refl
met_is c (asks x b) = one b
  where
    with_true : (same : Bool) → (not same || true) ≡ true
    with_true same = grind arith

    with_false : (same : Bool) → (not same || false) ≡ not (same || false)
    with_false same = grind arith

    one : (b : Bool) → (not (is_same_condition c x) || b) ≡ not (list_any (is_same_condition c) (if b then [] else x ∷ []))
    one true = with_true (is_same_condition c x)
    one false = with_false (is_same_condition c x)
met_is c (g ⊓ k) =
    two (met c g) (met c k) (list_any (is_same_condition c) (failed g)) (list_any (is_same_condition c) (failed k)) (met_is c g) (met_is c k)
    ∙ sym (ap not (any_append (is_same_condition c) (failed g) (failed k)))
  where
    two : (a b x y : Bool) → a ≡ not x → b ≡ not y → (a && b) ≡ not (x || y)
    two a b x y e f = grind arith
met_is c (unless true g) = refl
met_is c (unless false g) = met_is c g

none_here : (a b : Bool) → not (a || b) ≡ true → not a ≡ true
none_here a b e = grind arith

none_later : (a b : Bool) → not (a || b) ≡ true → not b ≡ true
none_later a b e = grind arith

none_with : (a b : Bool) → not (a && b) ≡ true → a ≡ true → not b ≡ true
none_with a b e f = grind arith

-- a condition of the rule of an edge, and of its settling rule
module _ (version : Version) (p : Plan) (h : List Edge) (r : Rule) (c : Condition) (e : Edge) (holds : not (fails version p h r c e) ≡ true) where
  abbrev at_edge : Bool
  at_edge = is_same_rule r (rule_of e.wire e.fall) && list_any (is_same_condition c) (failing version (readings p h e.driver) e.wire e.fall e.value)

  pub rule_met : is_same_rule r (rule_of e.wire e.fall) ≡ true → met c (guard version (readings p h e.driver) e.wire e.fall e.value).1 ≡ true
  rule_met same =
      met_is c (guard version (readings p h e.driver) e.wire e.fall e.value).1
      ∙ none_with (is_same_rule r (rule_of e.wire e.fall)) _ (none_here at_edge _ holds) same

  pub settling_met : option_map_or (is_same_rule r) (settling_of e.wire e.fall) false ≡ true → met c (settling_guard version p h e.wire e.fall).1 ≡ true
  settling_met same =
      met_is c (settling_guard version p h e.wire e.fall).1
      ∙ none_with (option_map_or (is_same_rule r) (settling_of e.wire e.fall) false) _ (none_later at_edge _ holds) same

-- the edges of a change
module _ (version : Version) (p : Plan) (h : List Edge) (r : Rule) (c : Condition) (e : Edge) (es : List Edge) (holds : not (list_any (fails version p h r c) (e ∷ es)) ≡ true) where
  pub first_edge : not (fails version p h r c e) ≡ true
  first_edge = none_here (fails version p h r c e) (list_any (fails version p h r c) es) holds

  pub other_edges : not (list_any (fails version p h r c) es) ≡ true
  other_edges = none_later (fails version p h r c e) (list_any (fails version p h r c) es) holds

-- of a change that asks one edge
module _ (version : Version) (p : Plan) (h : List Edge) (r : Rule) (c : Condition) (e : Edge) (holds : not (list_any (fails version p h r c) (e ∷ [])) ≡ true) where
  pub one_met : is_same_rule r (rule_of e.wire e.fall) ≡ true → met c (guard version (readings p h e.driver) e.wire e.fall e.value).1 ≡ true
  one_met same = rule_met version p h r c e (first_edge version p h r c e [] holds) same

  pub one_settles : option_map_or (is_same_rule r) (settling_of e.wire e.fall) false ≡ true → met c (settling_guard version p h e.wire e.fall).1 ≡ true
  one_settles same = settling_met version p h r c e (first_edge version p h r c e [] holds) same
