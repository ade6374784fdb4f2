-- An edge that reaches a goal is of a driver that has what the goal needs.
use Rattle.std.proofs.Common.{◌≡◌, ◌∙◌, ℕ, Bool, true, false, List, [], ◌∷◌, Option, Some, None, Ok, Err, refl, sym, ap, subst, if◌then◌else◌}
use Rattle.std.specs.Prelude.{◌==◌, ◌&&◌, ◌||◌, not, find, is_ok, is_some, option_map}
use Rattle.std.specs.List.{list_all, list_any}
use Rattle.std.specs.Option.{option_map_or, option_and_then}
use denote.Enum.Bare.{same_true}
use Rattle.vme_model.specs.contracts.sentences.Rule.{the_type as rule_type}
use Rattle.vme_model.specs.contracts.conditions.Condition.{the_type as condition_type}
use Rattle.vme_model.specs.declared.boards.Release.{Release}
use Rattle.vme_model.specs.declared.boards.Release.TheVariants.{Done, Request}
use Rattle.vme_model.specs.declared.boards.RequesterRow.{RequesterRow}
use Rattle.vme_model.specs.declared.boards.IrqKind.{IrqKind}
use Rattle.vme_model.specs.declared.boards.Row.{Row}
use Rattle.vme_model.specs.declared.conditions.Condition.{Condition}
use Rattle.vme_model.specs.declared.conditions.Condition.TheVariants.{Asked, OwnRequestHigh, GrantInHigh, AddressFree}
use Rattle.vme_model.specs.declared.refusals.Refused.TheVariants.{NoSuchDriver, AlreadyThere, Rule, NotSettled, TraceFull}
use Rattle.vme_model.specs.declared.sentences.Rule.{Rule as RuleName}
use Rattle.vme_model.specs.declared.signals.Cycle.{Cycle}
use Rattle.vme_model.specs.declared.signals.Driver.{Driver}
use Rattle.vme_model.specs.declared.signals.Driver.TheVariants.{Controller, Slot}
use Rattle.vme_model.specs.declared.signals.Edge.{Edge}
use Rattle.vme_model.specs.declared.signals.Version.{Version}
use Rattle.vme_model.specs.declared.signals.Wire.{Wire}
use Rattle.vme_model.specs.declared.signals.Wire.TheVariants.{Bg, Bclr, Iack, Berr, Br, BgOut, Bbsy, Addr, AddressStrobe, DataStrobe, Irq, IackOut, Dtack}
use Rattle.vme_model.specs.Signals.{is_grant_wire, is_same_wire, is_well_formed}
use Rattle.vme_model.specs.Plan.{Plan, board, board_of, drives, has_driver, row_in}
use Rattle.vme_model.specs.Guards.{Guard, free, asks, ◌⊓◌, failed}
use Rattle.vme_model.specs.Readings.{Readings, readings}
use Rattle.vme_model.specs.Rules.{bus_numbers, guard, release_guard, released, rule}
use Rattle.vme_model.specs.Settling.{settling}
use Rattle.vme_model.specs.Sources.{is_same_condition, rule_of}
use Rattle.vme_model.specs.Failing.{refused_for, unmet}
use Rattle.vme_model.specs.Verdict.{Judgement, State, check, verdict}
use Rattle.vme_model.proofs.Bools.{and_left, and_right, is_false, never, same_number}
use Rattle.vme_goals.specs.declared.events.Event.{Event}
use Rattle.vme_goals.specs.declared.events.Event.TheVariants as event
use Rattle.vme_goals.specs.declared.misses.Miss.{Miss}
use Rattle.vme_goals.specs.declared.misses.Miss.TheVariants as miss
use Rattle.vme_goals.specs.declared.goals.Aim.{Aim}
use Rattle.vme_goals.specs.declared.goals.Aim.TheVariants as aim
use Rattle.vme_goals.specs.declared.goals.Goal.{Goal}
use Rattle.vme_goals.specs.Goals.{counts}
use Rattle.vme_events.specs.Events.{comes}
use Rattle.vme_events.specs.Misses.{fails_rule, fails_settling, has_kind, is_alone, is_edge_of, is_lone, refuses}
use Rattle.vme_reach.specs.declared.hindrances.Hindrance.{Hindrance}
use Rattle.vme_reach.specs.declared.needs.Need.{Need}
use Rattle.vme_reach.specs.declared.needs.Need.TheVariants as need
use Rattle.vme_reach.specs.Needs.{of_controller, of_board, of_requester, of_interrupter, board_has, condition_needs, driver_has, event_needs, fulfils, hindrance_of, is_controllers, is_met, is_on_request, miss_needs, needs, number_needs, reaches, rule_needs}

and_both : (x y : Bool) → x ≡ true → y ≡ true → (x && y) ≡ true
and_both true y a b = b
and_both false y a b = absurd (never a)

or_left : (x y : Bool) → x ≡ true → (x || y) ≡ true
or_left true y h = refl
or_left false y h = absurd (never h)

or_right : (x y : Bool) → y ≡ true → (x || y) ≡ true
or_right true y h = refl
or_right false y h = h

same_wire : (a b : Wire) → is_same_wire a b ≡ true → a ≡ b
same_wire (Bg m) (Bg n) e = ap (λ x. Bg x) (same_number m n e)
same_wire Bclr Bclr e = refl
same_wire Iack Iack e = refl
same_wire Berr Berr e = refl
same_wire Br Br e = refl
same_wire BgOut BgOut e = refl
same_wire Bbsy Bbsy e = refl
same_wire Addr Addr e = refl
same_wire AddressStrobe AddressStrobe e = refl
same_wire DataStrobe DataStrobe e = refl
same_wire Irq Irq e = refl
same_wire IackOut IackOut e = refl
same_wire Dtack Dtack e = refl
same_wire a b e = absurd (cc)

-- ---- a driver that has a wire has what the wire needs

wire_needs : Wire → List Need
wire_needs (Bg n) = of_controller
wire_needs Bclr = of_controller
wire_needs Iack = of_controller
wire_needs Berr = of_controller
wire_needs Br = of_requester
wire_needs BgOut = of_requester
wire_needs Bbsy = of_requester
wire_needs Addr = of_requester
wire_needs AddressStrobe = of_requester
wire_needs DataStrobe = of_requester
wire_needs Irq = of_interrupter
wire_needs IackOut = of_interrupter
wire_needs Dtack = of_board

-- the driver has all of these
abbrev has : Plan → Driver → List Need → Bool
has p d ns = list_all (λ n. driver_has p n d) ns

alone_true : (b : Bool) → b ≡ true → (b && true) ≡ true
alone_true b h = and_both b true h refl

board_wire : (w : Wire) (o : Option Row) → option_map_or (drives w) o false ≡ true → list_all (λ n. option_map_or (board_has n) o false) (wire_needs w) ≡ true
unfolding wire_needs
board_wire w None h = absurd (never h)
board_wire (Bg n) (Some r) h = absurd (never h)
board_wire Bclr (Some r) h = absurd (never h)
board_wire Iack (Some r) h = absurd (never h)
board_wire Berr (Some r) h = absurd (never h)
board_wire Br (Some r) h = alone_true (is_some r.requester) h
board_wire BgOut (Some r) h = alone_true (is_some r.requester) h
board_wire Bbsy (Some r) h = alone_true (is_some r.requester) h
board_wire Addr (Some r) h = alone_true (is_some r.requester) h
board_wire AddressStrobe (Some r) h = alone_true (is_some r.requester) h
board_wire DataStrobe (Some r) h = alone_true (is_some r.requester) h
board_wire Irq (Some r) h = alone_true (is_some r.interrupter) h
board_wire IackOut (Some r) h = alone_true (is_some r.interrupter) h
board_wire Dtack (Some r) h = refl

wire_has : (p : Plan) (d : Driver) (w : Wire) → has_driver p d w ≡ true → has p d (wire_needs w) ≡ true
unfolding wire_needs
wire_has p Controller (Bg n) h = refl
wire_has p Controller Bclr h = refl
wire_has p Controller Iack h = refl
wire_has p Controller Berr h = refl
wire_has p Controller Br h = absurd (never h)
wire_has p Controller BgOut h = absurd (never h)
wire_has p Controller Bbsy h = absurd (never h)
wire_has p Controller Addr h = absurd (never h)
wire_has p Controller AddressStrobe h = absurd (never h)
wire_has p Controller DataStrobe h = absurd (never h)
wire_has p Controller Irq h = absurd (never h)
wire_has p Controller IackOut h = absurd (never h)
wire_has p Controller Dtack h = absurd (never h)
wire_has p (Slot s) w h = board_wire w (board p s) h

-- ---- what a driver that counts has is met

some_board : (n : Need) (rows : List Row) (s : ℕ) → option_map_or (board_has n) (row_in rows s) false ≡ true → list_any (board_has n) rows ≡ true
some_board n [] s h = absurd (never h)
some_board n (r ∷ rows) s h = one (r.slot == s) h (some_board n rows s)
  where
    one : (b : Bool) → option_map_or (board_has n) (if b then Some r else row_in rows s) false ≡ true → (option_map_or (board_has n) (row_in rows s) false ≡ true → list_any (board_has n) rows ≡ true)
        → (board_has n r || list_any (board_has n) rows) ≡ true
    one true h later = or_left (board_has n r) (list_any (board_has n) rows) h
    one false h later = or_right (board_has n r) (list_any (board_has n) rows) (later h)

met : (p : Plan) (only : Option Driver) (d : Driver) → counts only d ≡ true → (n : Need) → driver_has p n d ≡ true → is_met p only n ≡ true
met p None Controller c n h = or_left (is_controllers n) (list_any (board_has n) p.rows) h
met p None (Slot s) c n h = or_right (is_controllers n) (list_any (board_has n) p.rows) (some_board n p.rows s h)
met p (Some Controller) Controller c n h = h
met p (Some Controller) (Slot s) c n h = absurd (never c)
met p (Some (Slot t)) Controller c n h = absurd (never c)
met p (Some (Slot t)) (Slot s) c n h = subst (λ x. driver_has p n (Slot x) ≡ true) (same_number s t c) h

none_lacks : (p : Plan) (only : Option Driver) (d : Driver) → counts only d ≡ true → (ns : List Need) → has p d ns ≡ true → find (λ n. not (is_met p only n)) ns ≡ None
none_lacks p only d c [] h = refl
none_lacks p only d c (n ∷ ns) h =
    one (is_met p only n) (met p only d c n (and_left (driver_has p n d) (has p d ns) h)) (none_lacks p only d c ns (and_right (driver_has p n d) (has p d ns) h))
  where
    one : (b : Bool) → b ≡ true → find (λ n. not (is_met p only n)) ns ≡ None → (if not b then Some n else find (λ n. not (is_met p only n)) ns) ≡ None
    one true e rest = rest
    one false e rest = absurd (never e)

-- ---- what an answer says of its edge

-- the answer by what E1, E2, the rule, the settling rule and E5 say
abbrev answered : Bool → Bool → Bool → ℕ → Bool → ℕ → Bool → Judgement
answered x y z n s m r =
    check x NoSuchDriver (check y AlreadyThere (check z (Rule n) (check s (NotSettled m) (check r TraceFull (Ok tt)))))

by_rule : (x y z : Bool) (n : ℕ) (s : Bool) (m : ℕ) (r : Bool) (k : ℕ) → fails_rule k (answered x y z n s m r) ≡ true → (x ≡ true) × ((n == k) ≡ true) × (answered x y z n s m r ≡ Err (Rule n))
by_rule false y z n s m r k h = absurd (never h)
by_rule true false z n s m r k h = absurd (never h)
by_rule true true false n s m r k h = (refl, h, refl)
by_rule true true true n false m r k h = absurd (never h)
by_rule true true true n true m false k h = absurd (never h)
by_rule true true true n true m true k h = absurd (never h)

by_settling : (x y z : Bool) (n : ℕ) (s : Bool) (m : ℕ) (r : Bool) (k : ℕ) → fails_settling k (answered x y z n s m r) ≡ true → (x ≡ true) × ((m == k) ≡ true) × (s ≡ false)
by_settling false y z n s m r k h = absurd (never h)
by_settling true false z n s m r k h = absurd (never h)
by_settling true true false n s m r k h = absurd (never h)
by_settling true true true n false m r k h = (refl, h, refl)
by_settling true true true n true m false k h = absurd (never h)
by_settling true true true n true m true k h = absurd (never h)

by_either : (x : Bool) (j : Judgement) (cs : List Condition) → is_lone (check x NoSuchDriver j) cs ≡ true → x ≡ true
by_either false j cs h = absurd (never h)
by_either true j cs h = refl

by_none : (x : Bool) (j : Judgement) → is_ok (check x NoSuchDriver j) ≡ true → x ≡ true
by_none false j h = absurd (never h)
by_none true j h = refl

wired : (p : Plan) (e : Edge) → (is_well_formed e && has_driver p e.driver e.wire) ≡ true → has p e.driver (wire_needs e.wire) ≡ true
wired p e there = wire_has p e.driver e.wire (and_right (is_well_formed e) (has_driver p e.driver e.wire) there)

-- ---- the rules by their wires

number_wire : (version : Version) (r : Readings) (w : Wire) (fall : Bool) (v : Option Cycle) → number_needs (guard version r w fall v).0 ≡ wire_needs w
unfolding wire_needs
number_wire version r (Bg n) true v = refl
number_wire version r (Bg n) false v = refl
number_wire version r Bclr true v = refl
number_wire version r Bclr false v = refl
number_wire version r Iack true v = refl
number_wire version r Iack false v = refl
number_wire version r Berr true v = refl
number_wire version r Berr false v = refl
number_wire version r Br true v = refl
number_wire version r Br false v = refl
number_wire version r BgOut true v = refl
number_wire version r BgOut false v = refl
number_wire version r Bbsy true v = refl
number_wire version r Bbsy false v = refl
number_wire version r Addr true v = refl
number_wire version r Addr false v = refl
number_wire version r AddressStrobe true v = refl
number_wire version r AddressStrobe false v = refl
number_wire version r DataStrobe true v = refl
number_wire version r DataStrobe false v = refl
number_wire version r Irq true v = refl
number_wire version r Irq false v = refl
number_wire version r IackOut true v = refl
number_wire version r IackOut false v = refl
number_wire version r Dtack true v = refl
number_wire version r Dtack false v = refl

rule_wire : (w : Wire) (fall : Bool) → rule_needs (rule_of w fall) ≡ wire_needs w
unfolding wire_needs
rule_wire (Bg n) true = refl
rule_wire (Bg n) false = refl
rule_wire Bclr true = refl
rule_wire Bclr false = refl
rule_wire Iack true = refl
rule_wire Iack false = refl
rule_wire Berr true = refl
rule_wire Berr false = refl
rule_wire Br true = refl
rule_wire Br false = refl
rule_wire BgOut true = refl
rule_wire BgOut false = refl
rule_wire Bbsy true = refl
rule_wire Bbsy false = refl
rule_wire Addr true = refl
rule_wire Addr false = refl
rule_wire AddressStrobe true = refl
rule_wire AddressStrobe false = refl
rule_wire DataStrobe true = refl
rule_wire DataStrobe false = refl
rule_wire Irq true = refl
rule_wire Irq false = refl
rule_wire IackOut true = refl
rule_wire IackOut false = refl
rule_wire Dtack true = refl
rule_wire Dtack false = refl

abbrev settling_needs : ℕ → List Need
settling_needs k = miss_needs (miss.Settling k)

settling_wire : (version : Version) (p : Plan) (h : List Edge) (w : Wire) (fall : Bool) → (settling version p h w fall).1 ≡ false → settling_needs (settling version p h w fall).0 ≡ wire_needs w
unfolding wire_needs
settling_wire version p h (Bg n) true out = refl
settling_wire version p h (Bg n) false out = refl
settling_wire version p h Bclr fall out = absurd (cc)
settling_wire version p h Iack fall out = absurd (cc)
settling_wire version p h Berr true out = refl
settling_wire version p h Berr false out = absurd (cc)
settling_wire version p h Br fall out = absurd (cc)
settling_wire version p h BgOut fall out = absurd (cc)
settling_wire version p h Bbsy fall out = absurd (cc)
settling_wire version p h Addr fall out = absurd (cc)
settling_wire version p h AddressStrobe true out = refl
settling_wire version p h AddressStrobe false out = absurd (cc)
settling_wire version p h DataStrobe fall out = absurd (cc)
settling_wire version p h Irq fall out = absurd (cc)
settling_wire version p h IackOut fall out = absurd (cc)
settling_wire version p h Dtack fall out = absurd (cc)

-- ---- G14's last condition

other_first : (c : Condition) (rest : List Condition) → is_same_condition c Asked ≡ false → is_alone Asked (c ∷ rest) ≡ true → ⊥
other_first c [] other h = never (sym other ∙ h)
other_first c (d ∷ rest) other h = never h

last_alone : (x y z : Bool) (g : Guard) → is_alone Asked (failed (asks OwnRequestHigh x ⊓ asks GrantInHigh y ⊓ asks AddressFree z ⊓ g)) ≡ true → is_alone Asked (failed g) ≡ true
last_alone false y z g h = absurd (other_first OwnRequestHigh _ refl h)
last_alone true false z g h = absurd (other_first GrantInHigh _ refl h)
last_alone true true false g h = absurd (other_first AddressFree _ refl h)
last_alone true true true g h = h

asks_by : (is_asked : Bool) (r : Release) → is_alone Asked (failed (released is_asked r)) ≡ true → is_on_request r ≡ true
asks_by is_asked (Done burst) h = absurd (never h)
asks_by is_asked Request h = refl

asks_of : (is_asked : Bool) (q : Option RequesterRow) → is_alone Asked (failed (option_map_or (λ x. released is_asked x.release) q free)) ≡ true
    → option_map_or (λ x. is_on_request x.release) q false ≡ true
asks_of is_asked None h = absurd (never h)
asks_of is_asked (Some q) h = asks_by is_asked q.release h

asks_at : (is_asked : Bool) (o : Option Row) → is_alone Asked (failed (option_map_or (λ x. released is_asked x.release) (option_and_then (λ r. r.requester) o) free)) ≡ true
    → option_map_or (board_has need.OnRequest) o false ≡ true
asks_at is_asked None h = absurd (never h)
asks_at is_asked (Some r) h = asks_of is_asked r.requester h

releases : (version : Version) (p : Plan) (h : List Edge) (d : Driver) (w : Wire) (fall : Bool) (v : Option Cycle) → ((guard version (readings p h d) w fall v).0 == 14) ≡ true
    → is_alone Asked (failed (guard version (readings p h d) w fall v).1) ≡ true → driver_has p need.OnRequest d ≡ true
releases version p h Controller Bbsy false v is f =
    let r = readings p h Controller in absurd (never (last_alone (not (r.own Br)) (not r.grant_in) (not (r.own Addr) || r.own AddressStrobe) (release_guard r) f))
releases version p h (Slot s) Bbsy false v is f =
    let r = readings p h (Slot s) in
    asks_at (list_any r.request bus_numbers) (board p s) (last_alone (not (r.own Br)) (not r.grant_in) (not (r.own Addr) || r.own AddressStrobe) (release_guard r) f)
releases version p h d (Bg n) true v is f = absurd (never is)
releases version p h d (Bg n) false v is f = absurd (never is)
releases version p h d Bclr true v is f = absurd (never is)
releases version p h d Bclr false v is f = absurd (never is)
releases version p h d Iack true v is f = absurd (never is)
releases version p h d Iack false v is f = absurd (never is)
releases version p h d Berr true v is f = absurd (never is)
releases version p h d Berr false v is f = absurd (never is)
releases version p h d Br true v is f = absurd (never is)
releases version p h d Br false v is f = absurd (never is)
releases version p h d BgOut true v is f = absurd (never is)
releases version p h d BgOut false v is f = absurd (never is)
releases version p h d Bbsy true v is f = absurd (never is)
releases version p h d Addr true v is f = absurd (never is)
releases version p h d Addr false v is f = absurd (never is)
releases version p h d AddressStrobe true v is f = absurd (never is)
releases version p h d AddressStrobe false v is f = absurd (never is)
releases version p h d DataStrobe true v is f = absurd (never is)
releases version p h d DataStrobe false v is f = absurd (never is)
releases version p h d Irq true v is f = absurd (never is)
releases version p h d Irq false v is f = absurd (never is)
releases version p h d IackOut true v is f = absurd (never is)
releases version p h d IackOut false v is f = absurd (never is)
releases version p h d Dtack true v is f = absurd (never is)
releases version p h d Dtack false v is f = absurd (never is)

-- ---- what refuses an edge alone

three : (x y z : Bool) → (x && (y && true)) ≡ true → z ≡ true → (x && (y && (z && true))) ≡ true
three true true true h l = refl
three true true false h l = absurd (never l)
three true false z h l = absurd (never h)
three false y z h l = absurd (never h)

kind_at : (p : Plan) (kind : IrqKind) (d : Driver) → has_kind kind (board_of p d) ≡ true → driver_has p (need.Kind kind) d ≡ true
kind_at p kind Controller h = absurd (never h)
kind_at p kind (Slot s) h = by (board p s) h
  where
    by : (o : Option Row) → has_kind kind o ≡ true → option_map_or (board_has (need.Kind kind)) o false ≡ true
    by None h = absurd (never h)
    by (Some r) h = h

first_of : (x y : Bool) → (x && y) ≡ true → x ≡ true
first_of x y h = and_left x y h

second_of : (fall x y : Bool) → (not fall && x && y) ≡ true → x ≡ true
second_of false true y h = refl
second_of false false y h = absurd (never h)
second_of true x y h = absurd (never h)

grant_wire : (w : Wire) → is_grant_wire w ≡ true → wire_needs w ≡ of_controller
unfolding wire_needs
grant_wire (Bg n) h = refl
grant_wire Bclr h = refl
grant_wire Iack h = refl
grant_wire Berr h = refl
grant_wire w h = absurd (cc)

module _ (b : State) (e : Edge) where
  abbrev number : ℕ
  number = (rule b.version (readings b.plan b.history e.driver) e.wire e.fall e.value).0

  chosen : (k : ℕ) (c : Condition) → has b.plan e.driver (number_needs k) ≡ true → number ≡ k
      → is_alone c (failed (guard b.version (readings b.plan b.history e.driver) e.wire e.fall e.value).1) ≡ true → (x y : Bool) → (k == 14) ≡ x → is_same_condition c Asked ≡ y
      → has b.plan e.driver (if x && y then need.Board ∷ need.Requester ∷ need.OnRequest ∷ [] else number_needs k) ≡ true
  chosen k c general is alone false y one two = general
  chosen k c general is alone true false one two = general
  chosen k c general is alone true true one two =
      let at : k ≡ 14 = same_number k 14 one in
      let asked : c ≡ Asked = same_true condition_type tt c Asked two in
      let requester : has b.plan e.driver of_requester ≡ true = subst (λ n. has b.plan e.driver (number_needs n) ≡ true) at general in
      let last : driver_has b.plan need.OnRequest e.driver ≡ true =
      releases b.version b.plan b.history e.driver e.wire e.fall e.value (ap (λ n. n == 14) (is ∙ at))
      (subst (λ x. is_alone x (failed (guard b.version (readings b.plan b.history e.driver) e.wire e.fall e.value).1) ≡ true) asked alone) in
      three (driver_has b.plan need.Board e.driver) (driver_has b.plan need.Requester e.driver) (driver_has b.plan need.OnRequest e.driver) requester last

  rule_has : (k : ℕ) (c : Condition) → (fails_rule k (verdict b e) && is_alone c (unmet b e)) ≡ true → has b.plan e.driver (condition_needs k c) ≡ true
  rule_has k c h =
      let r = by_rule _ _ _ _ _ _ _ k (and_left (fails_rule k (verdict b e)) (is_alone c (unmet b e)) h) in
      let is : number ≡ k = same_number number k r.1 in
      let general : has b.plan e.driver (number_needs k) ≡ true =
      subst (λ ns. has b.plan e.driver ns ≡ true)
      (sym (number_wire b.version (readings b.plan b.history e.driver) e.wire e.fall e.value) ∙ ap number_needs is) (wired b.plan e r.0) in
      let alone : is_alone c (failed (guard b.version (readings b.plan b.history e.driver) e.wire e.fall e.value).1) ≡ true =
      ap (is_alone c) (sym (ap (refused_for b.version b.plan b.history e) r.2)) ∙ and_right (fails_rule k (verdict b e)) (is_alone c (unmet b e)) h in
      chosen k c general is alone (k == 14) (is_same_condition c Asked) refl refl

  settling_has : (k : ℕ) → fails_settling k (verdict b e) ≡ true → has b.plan e.driver (settling_needs k) ≡ true
  settling_has k h =
      let r = by_settling _ _ _ _ _ _ _ k h in
      subst (λ ns. has b.plan e.driver ns ≡ true)
      (sym (settling_wire b.version b.plan b.history e.wire e.fall r.2) ∙ ap settling_needs (same_number _ k r.1)) (wired b.plan e r.0)

  kind_has : (kind : IrqKind) → (fails_rule 22 (verdict b e) && has_kind kind (board_of b.plan e.driver)) ≡ true → has b.plan e.driver (miss_needs (miss.Unserved kind)) ≡ true
  kind_has kind h =
      let r = by_rule _ _ _ _ _ _ _ 22 (and_left (fails_rule 22 (verdict b e)) (has_kind kind (board_of b.plan e.driver)) h) in
      let interrupter : has b.plan e.driver of_interrupter ≡ true =
      subst (λ ns. has b.plan e.driver ns ≡ true)
      (sym (number_wire b.version (readings b.plan b.history e.driver) e.wire e.fall e.value) ∙ ap number_needs (same_number number 22 r.1)) (wired b.plan e r.0) in
      three (driver_has b.plan need.Board e.driver) (driver_has b.plan need.Interrupter e.driver) (driver_has b.plan (need.Kind kind) e.driver) interrupter
      (kind_at b.plan kind e.driver (and_right (fails_rule 22 (verdict b e)) (has_kind kind (board_of b.plan e.driver)) h))

  any_has : (r : RuleName) → (is_edge_of r e && is_lone (verdict b e) (unmet b e)) ≡ true → has b.plan e.driver (rule_needs r) ≡ true
  any_has r h =
      subst (λ ns. has b.plan e.driver ns ≡ true)
      (sym (rule_wire e.wire e.fall) ∙ ap rule_needs (same_true rule_type tt (rule_of e.wire e.fall) r (and_left (is_edge_of r e) (is_lone (verdict b e) (unmet b e)) h)))
      (wired b.plan e (by_either _ _ (unmet b e) (and_right (is_edge_of r e) (is_lone (verdict b e) (unmet b e)) h)))

  miss_has : (m : Miss) → refuses b m e ≡ true → has b.plan e.driver (miss_needs m) ≡ true
  miss_has (miss.Rule k c) h = rule_has k c h
  miss_has (miss.Unserved kind) h = kind_has kind h
  miss_has (miss.Settling k) h = settling_has k h
  miss_has (miss.AnyOf r) h = any_has r h

  -- ---- what brings an event about

  of_wire : (w : Wire) → is_ok (verdict b e) ≡ true → (e.fall && is_same_wire e.wire w) ≡ true → has b.plan e.driver (wire_needs w) ≡ true
  of_wire w ok h = subst (λ x. has b.plan e.driver (wire_needs x) ≡ true) (same_wire e.wire w (and_right e.fall (is_same_wire e.wire w) h)) (wired b.plan e (by_none _ _ ok))

  of_rise : (w : Wire) → is_ok (verdict b e) ≡ true → (not e.fall && is_same_wire e.wire w) ≡ true → has b.plan e.driver (wire_needs w) ≡ true
  of_rise w ok h = subst (λ x. has b.plan e.driver (wire_needs x) ≡ true) (same_wire e.wire w (and_right (not e.fall) (is_same_wire e.wire w) h)) (wired b.plan e (by_none _ _ ok))

  of_grant : is_ok (verdict b e) ≡ true → is_grant_wire e.wire ≡ true → has b.plan e.driver of_controller ≡ true
  of_grant ok h = subst (λ ns. has b.plan e.driver ns ≡ true) (grant_wire e.wire h) (wired b.plan e (by_none _ _ ok))

  event_has : (v : Event) → is_ok (verdict b e) ≡ true → comes b.plan b.history e v ≡ true → has b.plan e.driver (event_needs v) ≡ true
  unfolding wire_needs
  event_has event.GrantPassed ok h = of_wire BgOut ok h
  event_has event.LateRequest ok h = of_wire Br ok (first_of _ _ (first_of _ _ h))
  event_has event.Overtaken ok h = of_wire Bbsy ok (first_of _ _ h)
  event_has event.EarlyRelease ok h = of_rise Bbsy ok (first_of _ _ h)
  event_has event.Overlap ok h = of_wire Bbsy ok (first_of _ _ h)
  event_has event.FullBurst ok h = of_wire AddressStrobe ok (first_of _ _ h)
  event_has event.BusClear ok h = of_wire Bclr ok h
  event_has event.Rivals ok h = of_wire Irq ok (first_of _ _ h)
  event_has event.Delivery ok h = of_wire Dtack ok (first_of _ _ h)
  event_has event.IackPassed ok h = of_wire IackOut ok h
  event_has event.AnsweredAgain ok h = of_wire Dtack ok (first_of _ _ (first_of _ _ h))
  event_has event.Spurious ok h = of_wire Berr ok (first_of _ _ h)
  event_has event.BusError ok h = of_wire Berr ok (first_of _ _ h)
  event_has event.Withdrawn ok h = of_rise Br ok (first_of _ _ h)
  event_has event.GrantTimeout ok h = of_grant ok (second_of e.fall (is_grant_wire e.wire) _ h)

  aim_has : (a : Aim) → fulfils b a e ≡ true → has b.plan e.driver (needs a) ≡ true
  aim_has (aim.Event v) h = event_has v (and_left (is_ok (verdict b e)) (comes b.plan b.history e v) h) (and_right (is_ok (verdict b e)) (comes b.plan b.history e v) h)
  aim_has (aim.Miss m) h = miss_has m h

-- ---- the law

pub never_reached : (b : State) (g : Goal) (e : Edge) → is_some (hindrance_of b.plan g) ≡ true → reaches b g e ≡ false
never_reached b g e hindered =
    is_false (reaches b g e) (λ h. never (sym (ap told (all_there h)) ∙ hindered))
  where
    told : Option Need → Bool
    told o = is_some {T = Hindrance} (option_map (λ n. record { aim = g.aim; driver = g.driver; need = n }) o)

    all_there : reaches b g e ≡ true → find (λ n. not (is_met b.plan g.driver n)) (needs g.aim) ≡ None
    all_there h =
        none_lacks b.plan g.driver e.driver (and_left (counts g.driver e.driver) (fulfils b g.aim e) h) (needs g.aim) (aim_has b e g.aim (and_right (counts g.driver e.driver) (fulfils b g.aim e) h))
