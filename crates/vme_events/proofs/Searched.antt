-- `searches`: an edge to the state that its wire is in is refused by E2, and a search as far as it has
-- come.
use Rattle.std.proofs.Common.{◌≡◌, ◌∙◌, ℕ, ◌+◌, ◌<◌, Bool, true, false, List, [], ◌∷◌, ◌++◌, map, drop, get_or, length, Option, Some, None, refl, sym, ap}
use Rattle.std.specs.Prelude.{◌&&◌, if◌then◌else◌, not, find, option_map, is_some, Ok, Err}
use Rattle.std.specs.Result.{result_err}
use Rattle.std.specs.List.{flat_map}
use Rattle.std.specs.Option.{option_or}
use Rattle.std.proofs.lemmas.List.{drop_more}
use Rattle.std.proofs.lemmas.List.Folds.{find-append}
use Rattle.vme_model.specs.declared.conditions.Condition.{Condition}
use Rattle.vme_model.specs.declared.deliveries.Delivery.{Delivery}
use Rattle.vme_model.specs.declared.refusals.Refused.TheVariants.{NoSuchDriver, AlreadyThere, Rule, NotSettled, TraceFull}
use Rattle.vme_model.specs.declared.signals.Driver.{Driver}
use Rattle.vme_model.specs.declared.signals.Wire.{Wire}
use Rattle.vme_model.specs.declared.signals.Wire.TheVariants.{Addr}
use Rattle.vme_model.specs.declared.signals.Cycle.{Cycle}
use Rattle.vme_model.specs.declared.signals.Edge.{Edge}
use Rattle.vme_model.specs.Deliveries.{with_delivery}
use Rattle.vme_model.specs.History.{drive}
use Rattle.vme_model.specs.Offers.{turned}
use Rattle.vme_model.specs.Open.{moves, showing, acknowledges, accesses}
use Rattle.vme_model.specs.Plan.{board_of}
use Rattle.vme_model.specs.Failing.{unmet}
use Rattle.vme_model.specs.Verdict.{State, Judgement, check, is_other_state}
use Rattle.vme_goals.specs.declared.misses.Miss.{Miss}
use Rattle.vme_goals.specs.Goals.{counts}
use Rattle.vme_goals.specs.declared.misses.Miss.TheVariants as miss
use Rattle.vme_events.specs.Misses.{fails_rule, fails_settling, has_kind, is_alone, is_edge_of, is_lone, is_missed, refuses}
use Rattle.vme_events.specs.Turned.{is_by_one, is_rule, is_settling, refusal, turned_to}

pub refused_alike : (v : Judgement) (d : Option Delivery) → result_err (with_delivery v d) ≡ refusal v
refused_alike (Ok u) d = refl
refused_alike (Err r) d = refl

pub rule_alike : (k : ℕ) (v : Judgement) → is_rule k (refusal v) ≡ fails_rule k v
rule_alike k (Ok u) = refl
rule_alike k (Err NoSuchDriver) = refl
rule_alike k (Err AlreadyThere) = refl
rule_alike k (Err (Rule n)) = refl
rule_alike k (Err (NotSettled n)) = refl
rule_alike k (Err TraceFull) = refl

pub settling_alike : (k : ℕ) (v : Judgement) → is_settling k (refusal v) ≡ fails_settling k v
settling_alike k (Ok u) = refl
settling_alike k (Err NoSuchDriver) = refl
settling_alike k (Err AlreadyThere) = refl
settling_alike k (Err (Rule n)) = refl
settling_alike k (Err (NotSettled n)) = refl
settling_alike k (Err TraceFull) = refl

pub lone_alike : (v : Judgement) (cs : List Condition) → is_by_one (refusal v) cs ≡ is_lone v cs
lone_alike (Ok u) cs = refl
lone_alike (Err NoSuchDriver) cs = refl
lone_alike (Err AlreadyThere) cs = refl
lone_alike (Err (Rule n)) cs = refl
lone_alike (Err (NotSettled n)) cs = refl
lone_alike (Err TraceFull) cs = refl

same_state : (fall : Bool) → is_other_state fall fall ≡ false
same_state true = refl
same_state false = refl

no_rule : (k : ℕ) (g s : Bool) (rest : Judgement) → s ≡ false → fails_rule k (check g NoSuchDriver (check s AlreadyThere rest)) ≡ false
no_rule k false s rest e = refl
no_rule k true false rest e = refl
no_rule k true true rest e = absurd (cc)

no_settling : (k : ℕ) (g s : Bool) (rest : Judgement) → s ≡ false → fails_settling k (check g NoSuchDriver (check s AlreadyThere rest)) ≡ false
no_settling k false s rest e = refl
no_settling k true false rest e = refl
no_settling k true true rest e = absurd (cc)

no_lone : (g s : Bool) (rest : Judgement) (cs : List Condition) → s ≡ false → is_lone (check g NoSuchDriver (check s AlreadyThere rest)) cs ≡ false
no_lone false s rest cs e = refl
no_lone true false rest cs e = refl
no_lone true true rest cs e = absurd (cc)

and_false : (b : Bool) → (b && false) ≡ false
and_false true = refl
and_false false = refl

stays : (b : State) (e : Edge) → drive b.history e.driver e.wire ≡ e.fall → is_other_state (drive b.history e.driver e.wire) e.fall ≡ false
stays b e low = ap (λ x. is_other_state x e.fall) low ∙ same_state e.fall

-- an edge to the state that its wire is in
not_moved : (b : State) (m : Miss) (e : Edge) → drive b.history e.driver e.wire ≡ e.fall → refuses b m e ≡ false
not_moved b (miss.Rule k c) e low = ap (λ t. t && is_alone c (unmet b e)) (no_rule k _ _ _ (stays b e low))
not_moved b (miss.Unserved kind) e low = ap (λ t. t && has_kind kind (board_of b.plan e.driver)) (no_rule 22 _ _ _ (stays b e low))
not_moved b (miss.Settling k) e low = no_settling k _ _ _ (stays b e low)
not_moved b (miss.AnyOf r) e low = ap (λ t. is_edge_of r e && t) (no_lone _ _ _ (unmet b e) (stays b e low)) ∙ and_false (is_edge_of r e)

-- whichever driver counts
not_missed : (b : State) (o : Option Driver) (m : Miss) (e : Edge) → drive b.history e.driver e.wire ≡ e.fall → is_missed b o m e ≡ false
not_missed b o m e low = ap (λ t. counts o e.driver && t) (not_moved b m e low) ∙ and_false (counts o e.driver)

never : {A : Type 0} (x : Bool) → x ≡ true → x ≡ false → A
never x t f = absurd (let e : true ≡ false = sym t ∙ f in cc)

one_found : (test : Edge → Bool) (e : Edge) → test e ≡ true → find test (e ∷ []) ≡ Some e
one_found test e h = ap (λ (t : Bool). if t then Some e else None) h

one_missed : (test : Edge → Bool) (e : Edge) → test e ≡ false → find test (e ∷ []) ≡ None
one_missed test e h = ap (λ (t : Bool). if t then Some e else None) h

-- of the two edges of a wire only the one that moves it can be refused by this alone
pub fall_found : (b : State) (o : Option Driver) (m : Miss) (d : Driver) (w : Wire) → is_missed b o m (turned_to d w true) ≡ true → find (is_missed b o m) (turned b.history d w ∷ [])
    ≡ Some (turned_to d w true)
fall_found b o m d w h = at (drive b.history d w) refl
  where
    at : (low : Bool) → drive b.history d w ≡ low → find (is_missed b o m) (turned b.history d w ∷ []) ≡ Some (turned_to d w true)
    at true p = never (is_missed b o m (turned_to d w true)) h (not_missed b o m (turned_to d w true) p)
    at false p = ap (λ low. find (is_missed b o m) (turned_to d w (not low) ∷ [])) p ∙ one_found (is_missed b o m) (turned_to d w true) h

pub rise_found : (b : State) (o : Option Driver) (m : Miss) (d : Driver) (w : Wire) → is_missed b o m (turned_to d w false) ≡ true → find (is_missed b o m) (turned b.history d w ∷ [])
    ≡ Some (turned_to d w false)
rise_found b o m d w h = at (drive b.history d w) refl
  where
    at : (low : Bool) → drive b.history d w ≡ low → find (is_missed b o m) (turned b.history d w ∷ []) ≡ Some (turned_to d w false)
    at false p = never (is_missed b o m (turned_to d w false)) h (not_missed b o m (turned_to d w false) p)
    at true p = ap (λ low. find (is_missed b o m) (turned_to d w (not low) ∷ [])) p ∙ one_found (is_missed b o m) (turned_to d w false) h

pub neither_found : (b : State) (o : Option Driver) (m : Miss) (d : Driver) (w : Wire) → is_missed b o m (turned_to d w true) ≡ false → is_missed b o m (turned_to d w false) ≡ false
    → find (is_missed b o m) (turned b.history d w ∷ []) ≡ None
neither_found b o m d w fall rise = at (drive b.history d w) refl
  where
    at : (low : Bool) → drive b.history d w ≡ low → find (is_missed b o m) (turned b.history d w ∷ []) ≡ None
    at true p = ap (λ low. find (is_missed b o m) (turned_to d w (not low) ∷ [])) p ∙ one_missed (is_missed b o m) (turned_to d w false) rise
    at false p = ap (λ low. find (is_missed b o m) (turned_to d w (not low) ∷ [])) p ∙ one_missed (is_missed b o m) (turned_to d w true) fall

-- the same of the address group, which can show many cycles
abbrev cycles : List Cycle
cycles = acknowledges ++ accesses

find-map : {X Y : Type 0} (test : Y → Bool) (f : X → Y) (xs : List X) → find test (map f xs) ≡ option_map f (find (λ x. test (f x)) xs)
find-map test f [] = refl
find-map test f (x ∷ xs) = first (test (f x)) (find-map test f xs)
  where
    first : (t : Bool) → find test (map f xs) ≡ option_map f (find (λ x. test (f x)) xs) → (if t then Some (f x) else find test (map f xs))
        ≡ option_map f (if t then Some x else find (λ x. test (f x)) xs)
    first true e = refl
    first false e = e

none_shown : (b : State) (o : Option Driver) (m : Miss) (d : Driver) (cs : List Cycle) → drive b.history d Addr ≡ true → find (λ c. is_missed b o m (showing d c)) cs ≡ None
none_shown b o m d [] low = refl
none_shown b o m d (c ∷ cs) low = ap (λ (t : Bool). if t then Some c else find (λ c. is_missed b o m (showing d c)) cs) (not_missed b o m (showing d c) low) ∙ none_shown b o m d cs low

address_moves : (h : List Edge) (d : Driver) (low : Bool) → drive h d Addr ≡ low → moves h d Addr ≡ (if low then turned_to d Addr false ∷ [] else map (showing d) cycles)
address_moves h d true p = ap (λ (t : Bool). if t then turned_to d Addr (not t) ∷ [] else map (showing d) cycles) p
address_moves h d false p = ap (λ (t : Bool). if t then turned_to d Addr (not t) ∷ [] else map (showing d) cycles) p

pub off_found : (b : State) (o : Option Driver) (m : Miss) (d : Driver) → is_missed b o m (turned_to d Addr false) ≡ true → find (is_missed b o m) (moves b.history d Addr)
    ≡ Some (turned_to d Addr false)
off_found b o m d h = at (drive b.history d Addr) refl
  where
    at : (low : Bool) → drive b.history d Addr ≡ low → find (is_missed b o m) (moves b.history d Addr) ≡ Some (turned_to d Addr false)
    at false p = never (is_missed b o m (turned_to d Addr false)) h (not_missed b o m (turned_to d Addr false) p)
    at true p = ap (find (is_missed b o m)) (address_moves b.history d true p) ∙ one_found (is_missed b o m) (turned_to d Addr false) h

pub on_found : (b : State) (o : Option Driver) (m : Miss) (d : Driver) → is_missed b o m (turned_to d Addr false) ≡ false → find (is_missed b o m) (moves b.history d Addr) ≡ option_map (showing d)
    (find (λ c. is_missed b o m (showing d c)) cycles)
on_found b o m d h = at (drive b.history d Addr) refl
  where
    at : (low : Bool) → drive b.history d Addr ≡ low → find (is_missed b o m) (moves b.history d Addr) ≡ option_map (showing d) (find (λ c. is_missed b o m (showing d c)) cycles)
    at false p = ap (find (is_missed b o m)) (address_moves b.history d false p) ∙ find-map (is_missed b o m) (showing d) cycles
    at true p = ap (find (is_missed b o m)) (address_moves b.history d true p) ∙ one_missed (is_missed b o m) (turned_to d Addr false) h
        ∙ sym (ap (option_map (showing d)) (none_shown b o m d cycles p))

-- a search of lists one after another, as far as it has come
pub one_more : {X : Type 0} (test : Edge → Bool) (f : X → List Edge) (xs : List X) (i : ℕ) (x : X) → i < length xs
    → find test (flat_map f (drop i xs)) ≡ option_or (find test (f (get_or xs i x))) (find test (flat_map f (drop (i + 1) xs)))
one_more {X} test f xs i x lt =
    ap (λ (ys : List X). find test (flat_map f ys)) (drop_more xs i x lt) ∙ find-append test (f (get_or xs i x)) (flat_map f (drop (i + 1) xs))

pub found_here : {X : Type 0} (test : Edge → Bool) (f : X → List Edge) (xs : List X) (i : ℕ) (x : X) (e : Option Edge) → i < length xs
    → e ≡ find test (f (get_or xs i x)) → is_some e ≡ true → find test (flat_map f (drop i xs)) ≡ e
found_here {X} test f xs i x (Some e) lt at some = one_more test f xs i x lt ∙ ap (λ o. option_or o (find test (flat_map f (drop (i + 1) xs)))) (sym at)
found_here {X} test f xs i x None lt at some = absurd (cc)

pub found_later : {X : Type 0} (test : Edge → Bool) (f : X → List Edge) (xs : List X) (i : ℕ) (x : X) (e : Option Edge) → i < length xs
    → e ≡ find test (f (get_or xs i x)) → is_some e ≡ false → find test (flat_map f (drop i xs)) ≡ find test (flat_map f (drop (i + 1) xs))
found_later {X} test f xs i x (Some e) lt at some = absurd (cc)
found_later {X} test f xs i x None lt at some = one_more test f xs i x lt ∙ ap (λ o. option_or o (find test (flat_map f (drop (i + 1) xs)))) (sym at)
