-- Whether the same is said twice.
use Rattle.std.proofs.Common.{◌≡◌, ◌⊎◌, inl, inr, ◌&&◌, ◌∷◌, [], ℕ, List, Bool, true, false, Option, Some, None, Result, Ok, Err, refl, sym, ◌∙◌, ap, subst, arith}
use Rattle.std.specs.Prelude.{◌==◌}
use Rattle.std.proofs.lemmas.Bool.Decides.{nat_tests}
use denote.Enum.Bare.{sameb, same_true, true_same}
use lib.Pointwise.{pointwise}
use Rattle.vme_model.specs.contracts.conditions.Condition.{the_type as condition_type}
use Rattle.vme_goals.specs.contracts.events.Event.{the_type as event_type}
use Rattle.vme_model.specs.declared.conditions.Condition.{Condition}
use Rattle.vme_model.specs.declared.deliveries.Delivery.{Delivery}
use Rattle.vme_model.specs.declared.refusals.Refused.{Refused}
use Rattle.vme_model.specs.declared.refusals.Refused.TheVariants.{NoSuchDriver, AlreadyThere, Rule, NotSettled, TraceFull}
use Rattle.vme_goals.specs.declared.events.Event.{Event}
use Rattle.vme_shrink_search.specs.Replies.{Reply}
use Rattle.vme_shrink_search.specs.Alike.{is_same_answer, is_same_delivery, is_same_pick, is_same_refusal, is_same_reply}

pub true_false : false ≡ true → ⊥
true_false h = cc

equal : (m n : ℕ) → (m == n) ≡ true → m ≡ n
equal m n h = grind (arith, nat_tests)

equal_self : (m : ℕ) → (m == m) ≡ true
equal_self m = grind (arith, nat_tests)

both : (a b : Bool) → (a && b) ≡ true → (a ≡ true) × (b ≡ true)
both true b h = (refl, h)
both false b h = absurd (true_false h)

joined : (a b : Bool) → a ≡ true → b ≡ true → (a && b) ≡ true
joined true b h k = k
joined false b h k = h

-- ---- the same by its test

refusals : (r s : Refused) → is_same_refusal r s ≡ true → r ≡ s
refusals NoSuchDriver NoSuchDriver h = refl
refusals AlreadyThere AlreadyThere h = refl
refusals TraceFull TraceFull h = refl
refusals (Rule m) (Rule n) h = ap Rule (equal m n h)
refusals (NotSettled m) (NotSettled n) h = ap NotSettled (equal m n h)
refusals r s h = absurd (cc)

refusal_self : (r : Refused) → is_same_refusal r r ≡ true
refusal_self NoSuchDriver = refl
refusal_self AlreadyThere = refl
refusal_self TraceFull = refl
refusal_self (Rule m) = equal_self m
refusal_self (NotSettled m) = equal_self m

same_fields : (d f : Delivery) → d.handler ≡ f.handler → d.level ≡ f.level
    → d.answered_by ≡ f.answered_by → d.status ≡ f.status → d ≡ f
same_fields d f h l a s =
    (λ i. record { handler = h i; level = l i; answered_by = a i; status = s i })

deliveries : (d f : Option Delivery) → is_same_delivery d f ≡ true → d ≡ f
deliveries None None h = refl
deliveries None (Some f) h = absurd (true_false h)
deliveries (Some d) None h = absurd (true_false h)
deliveries (Some d) (Some f) h =
    let p = both (d.handler == f.handler) _ h in
    let q = both (d.level == f.level) _ p.1 in
    let r = both (d.answered_by == f.answered_by) _ q.1 in
    ap Some (same_fields d f (equal d.handler f.handler p.0) (equal d.level f.level q.0)
    (equal d.answered_by f.answered_by r.0) (equal d.status f.status r.1))

delivery_self : (d : Option Delivery) → is_same_delivery d d ≡ true
delivery_self None = refl
delivery_self (Some d) =
    joined (d.handler == d.handler) _ (equal_self d.handler)
    (joined (d.level == d.level) _ (equal_self d.level)
    (joined (d.answered_by == d.answered_by) _ (equal_self d.answered_by)
    (equal_self d.status)))

answers : (a b : Result (Option Delivery) Refused) → is_same_answer a b ≡ true → a ≡ b
answers (Ok d) (Ok f) h = ap Ok (deliveries d f h)
answers (Err r) (Err s) h = ap Err (refusals r s h)
answers (Ok d) (Err s) h = absurd (true_false h)
answers (Err r) (Ok f) h = absurd (true_false h)

answer_self : (a : Result (Option Delivery) Refused) → is_same_answer a a ≡ true
answer_self (Ok d) = delivery_self d
answer_self (Err r) = refusal_self r

conditions : (xs ys : List Condition) → pointwise (sameb condition_type) xs ys ≡ true → xs ≡ ys
conditions [] [] h = refl
conditions [] (y ∷ ys) h = absurd (true_false h)
conditions (x ∷ xs) [] h = absurd (true_false h)
conditions (x ∷ xs) (y ∷ ys) h =
    let p = both (sameb condition_type x y) (pointwise (sameb condition_type) xs ys) h in
    let e = same_true condition_type tt x y p.0 in
    let r = conditions xs ys p.1 in (λ i. e i ∷ r i)

condition_self : (xs : List Condition) → pointwise (sameb condition_type) xs xs ≡ true
condition_self [] = refl
condition_self (x ∷ xs) =
    joined (sameb condition_type x x) (pointwise (sameb condition_type) xs xs)
    (true_same condition_type x x refl) (condition_self xs)

events : (xs ys : List Event) → pointwise (sameb event_type) xs ys ≡ true → xs ≡ ys
events [] [] h = refl
events [] (y ∷ ys) h = absurd (true_false h)
events (x ∷ xs) [] h = absurd (true_false h)
events (x ∷ xs) (y ∷ ys) h =
    let p = both (sameb event_type x y) (pointwise (sameb event_type) xs ys) h in
    let e = same_true event_type tt x y p.0 in
    let r = events xs ys p.1 in (λ i. e i ∷ r i)

event_self : (xs : List Event) → pointwise (sameb event_type) xs xs ≡ true
event_self [] = refl
event_self (x ∷ xs) =
    joined (sameb event_type x x) (pointwise (sameb event_type) xs xs)
    (true_same event_type x x refl) (event_self xs)

picks : (a b : Option ℕ) → is_same_pick a b ≡ true → a ≡ b
picks None None h = refl
picks None (Some n) h = absurd (true_false h)
picks (Some m) None h = absurd (true_false h)
picks (Some m) (Some n) h = ap Some (equal m n h)

pick_self : (a : Option ℕ) → is_same_pick a a ≡ true
pick_self None = refl
pick_self (Some n) = equal_self n

same_parts : (t u : Reply) → t.answer ≡ u.answer → t.failing ≡ u.failing → t.level ≡ u.level
    → t.pick ≡ u.pick → t.events ≡ u.events → t ≡ u
same_parts t u a f l p e =
    (λ i. record { answer = a i; failing = f i; level = l i; pick = p i; events = e i })

-- ---- the test decides

pub reply_alike : (t u : Reply) → is_same_reply t u ≡ true → t ≡ u
reply_alike t u h =
    let p = both (is_same_answer t.answer u.answer) _ h in
    let q = both (pointwise (sameb condition_type) t.failing u.failing) _ p.1 in
    let r = both (t.level == u.level) _ q.1 in
    let s = both (is_same_pick t.pick u.pick) _ r.1 in
    same_parts t u (answers t.answer u.answer p.0) (conditions t.failing u.failing q.0)
    (equal t.level u.level r.0) (picks t.pick u.pick s.0) (events t.events u.events s.1)

reply_self : (t : Reply) → is_same_reply t t ≡ true
reply_self t =
    joined (is_same_answer t.answer t.answer) _ (answer_self t.answer)
    (joined (pointwise (sameb condition_type) t.failing t.failing) _ (condition_self t.failing)
    (joined (t.level == t.level) _ (equal_self t.level)
    (joined (is_same_pick t.pick t.pick) _ (pick_self t.pick) (event_self t.events))))

pub alike_reply : (t u : Reply) → t ≡ u → is_same_reply t u ≡ true
alike_reply t u h = subst (λ x. is_same_reply t x ≡ true) h (reply_self t)

pub decided : (t u : Reply) → (t ≡ u) ⊎ (t ≡ u → ⊥)
decided t u = by (is_same_reply t u) refl
  where
    by : (r : Bool) → is_same_reply t u ≡ r → (t ≡ u) ⊎ (t ≡ u → ⊥)
    by true h = inl (reply_alike t u h)
    by false h = inr (λ e. true_false (sym h ∙ alike_reply t u e))
