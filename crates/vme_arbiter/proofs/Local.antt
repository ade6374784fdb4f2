-- The controller's answer by the fields is the answer over the edges that were noted.
use Rattle.std.proofs.Common.{◌≡◌, ◌∙◌, ◌<◌, refl, sym, ap, subst, ℕ, zero, suc, Bool, true, false, List, arith}
use Rattle.std.specs.Prelude.{◌==◌, ◌&&◌, ◌||◌, not, nat_le, Option, Some, None}
use Rattle.std.specs.Option.{option_map_or}
use Rattle.std.proofs.lemmas.Bool.{ltb-true}
use Rattle.std.proofs.lemmas.Bool.Decides.{nat_tests}
use Rattle.vme_model.specs.declared.boards.ArbiterKind.{ArbiterKind}
use Rattle.vme_model.specs.declared.boards.ArbiterKind.TheVariants.{Pri}
use Rattle.vme_model.specs.declared.pins.Pins.{Pins}
use Rattle.vme_model.specs.declared.sets.BusLevels.{BusLevels}
use Rattle.vme_model.specs.declared.signals.Version.{Version}
use Rattle.vme_model.specs.declared.signals.Driver.{Driver}
use Rattle.vme_model.specs.declared.signals.Wire.{Wire}
use Rattle.vme_model.specs.declared.signals.Wire.TheVariants.{Bg, Bclr, Iack, Berr}
use Rattle.vme_model.specs.declared.signals.Cycle.{Cycle}
use Rattle.vme_model.specs.declared.signals.Edge.{Edge}
use Rattle.vme_model.specs.Signals.{is_grant, is_grant_wire, grant_level, has_wire}
use Rattle.vme_model.specs.Sets.{has_bus_level}
use Rattle.vme_model.specs.History.{last_level}
use Rattle.vme_model.specs.Readings.{Readings}
use Rattle.vme_model.specs.Rules.{pick, is_pick, is_highest}
use Rattle.vme_model.proofs.Picks.{one_pick}
use Rattle.vme_model.specs.Verdict.{ruling}
use Rattle.vme_model.specs.declared.signals.Driver.TheVariants.{Controller}
use Rattle.vme_arbiter.specs.Local.{ControllerState, controller_of, local, over, over_pick}

abbrev edge : Driver → Wire → Bool → Option Cycle → Edge
edge d w f v = record { driver = d; wire = w; fall = f; value = v }

-- a level alone is requested, or none
abbrev pub alone : Option ℕ → ℕ → Bool
alone picked n = option_map_or (λ m. m == n) picked false

none_above : (m k n : ℕ) → (k == n) ≡ true → (not (k == m) || nat_le m n) ≡ true
none_above m k n same = by_test (k == m) refl
  where
    by_test : (b : Bool) → (k == m) ≡ b → (not b || nat_le m n) ≡ true
    by_test true e = grind (arith, nat_tests)
    by_test false e = refl

all_four : (a b c d : Bool) → a ≡ true → b ≡ true → c ≡ true → d ≡ true → (a && (b && (c && (d && true)))) ≡ true
all_four a b c d e f g h = cc

if_so : (a b : Bool) → (a ≡ true → b ≡ true) → (a && b) ≡ a
if_so true b f = f refl
if_so false b f = refl

-- priority picks the one level that is requested
lone_pick : (picked : Option ℕ) (last n : ℕ) → is_pick Pri (alone picked) last n ≡ alone picked n
lone_pick None last n = refl
lone_pick (Some k) last n =
    if_so (k == n) (is_highest (alone (Some k)) n)
    (λ e. all_four _ _ _ _ (none_above 0 k n e) (none_above 1 k n e) (none_above 2 k n e) (none_above 3 k n e))

-- whatever is requested of the bus and whatever the kind
abbrev pub as_asked : Readings → (ℕ → Bool) → ArbiterKind → Readings
as_asked r request asked = record r { request = request; arbiter = asked }

by_parts : (kind asked : ArbiterKind) (request : ℕ → Bool) (version : Version) (noted : List Edge) (pins : Pins) (d : Driver) (w : Wire) (f : Bool) (v : Option Cycle) → has_wire Controller w ≡ true →
    ruling version (as_asked (local (controller_of kind version noted) pins) request asked) (edge d w f v) ≡ ruling version (as_asked (over kind noted pins) request asked) (edge d w f v)
by_parts kind asked request version noted pins d (Bg zero) true v own = refl
by_parts kind asked request version noted pins d (Bg zero) false v own = refl
by_parts kind asked request version noted pins d (Bg (suc zero)) true v own = refl
by_parts kind asked request version noted pins d (Bg (suc zero)) false v own = refl
by_parts kind asked request version noted pins d (Bg (suc (suc zero))) true v own = refl
by_parts kind asked request version noted pins d (Bg (suc (suc zero))) false v own = refl
by_parts kind asked request version noted pins d (Bg (suc (suc (suc zero)))) true v own = refl
by_parts kind asked request version noted pins d (Bg (suc (suc (suc zero)))) false v own = refl
by_parts kind asked request version noted pins d (Bg (suc (suc (suc (suc n))))) f v own =
    absurd (let small = ltb-true (suc (suc (suc (suc n)))) 4 own in omega (arith, small))
by_parts kind asked request version noted pins d Bclr true v own = refl
by_parts kind asked request version noted pins d Bclr false v own = refl
by_parts kind asked request version noted pins d Iack true v own = refl
by_parts kind asked request version noted pins d Iack false v own = refl
by_parts kind asked request version noted pins d Berr true v own = refl
by_parts kind asked request version noted pins d Berr false v own = refl
by_parts kind asked request version noted pins d w f v own = absurd (cc)

-- a state that comes from a list answers as the list says
pub answers_over : (kind : ArbiterKind) (version : Version) (noted : List Edge) (state : ControllerState) (pins : Pins) (e : Edge) → state ≡ controller_of kind version noted
    → has_wire Controller e.wire ≡ true →
    ruling state.version (local state pins) e ≡ ruling version (over kind noted pins) e
answers_over kind version noted state pins e same own =
    let P : ControllerState → Type 0 = λ c. ruling c.version (local c pins) e ≡ ruling version (over kind noted pins) e in
    subst P (sym same) (by_parts kind kind (has_bus_level pins.requests) version noted pins e.driver e.wire e.fall e.value own)

-- a state that comes from a list answers a grant as the list says, by a policy's pick for the level
-- last granted
pub grants_over : (kind : ArbiterKind) (version : Version) (noted : List Edge) (state : ControllerState) (pins : Pins) (e : Edge) (picked : ℕ → Option ℕ) → state ≡ controller_of kind version noted
    → has_wire Controller e.wire ≡ true →
    ruling state.version (as_asked (local state pins) (alone (picked state.last_level)) Pri) e ≡ ruling version (over_pick (picked (last_level noted)) noted pins) e
grants_over kind version noted state pins e picked same own =
    let P : ControllerState → Type 0 = λ c. ruling c.version (as_asked (local c pins) (alone (picked c.last_level)) Pri) e ≡ ruling version (over_pick (picked (last_level noted)) noted pins) e in
    subst P (sym same) (by_parts kind Pri (alone (picked (last_level noted))) version noted pins e.driver e.wire e.fall e.value own)

-- a grant's level is one of the four
level_small : (w : Wire) → has_wire Controller w ≡ true → is_grant_wire w ≡ true → grant_level w < 4
level_small (Bg n) own grant = grind arith
level_small w own grant = absurd (cc)

grant_wire : (f g : Bool) → (f && g) ≡ true → g ≡ true
grant_wire true g grant = grant
grant_wire false g grant = absurd (cc)

-- whether a grant is of the picked level
pub pick_alike : (kind : ArbiterKind) (requests : BusLevels) (last : ℕ) (e : Edge) {picked : Option ℕ} {is_picked : Bool} → has_wire Controller e.wire ≡ true →
    picked ≡ pick kind (has_bus_level requests) last → is_picked ≡ (is_grant e && option_map_or (λ m. m == grant_level e.wire) picked false) → is_grant e ≡ true →
    is_picked ≡ is_pick kind (has_bus_level requests) last (grant_level e.wire)
pick_alike kind requests last e {picked} own picks is grant =
    is
    ∙ ap (λ g. g && option_map_or (λ m. m == grant_level e.wire) picked false) grant
    ∙ ap (λ p. option_map_or (λ m. m == grant_level e.wire) p false) picks
    ∙ sym (one_pick kind (has_bus_level requests) last (grant_level e.wire) (level_small e.wire own (grant_wire e.fall (is_grant_wire e.wire) grant)))

-- a policy's pick, by the state
pub pick_of : (state : ControllerState) (kind : ArbiterKind) (version : Version) (noted : List Edge) (picked : ℕ → Option ℕ) (requests : BusLevels) → state ≡ controller_of kind version noted →
    picked (last_level noted) ≡ pick kind (has_bus_level requests) (last_level noted) → picked state.last_level ≡ pick state.kind (has_bus_level requests) state.last_level
pick_of state kind version noted picked requests same picks =
    let P : ControllerState → Type 0 = λ c. picked c.last_level ≡ pick c.kind (has_bus_level requests) c.last_level in
    subst P (sym same) picks

same_level : (picked : Option ℕ) (level : ℕ) → option_map_or (λ m. m == level) picked false ≡ true → picked ≡ Some level
same_level None level same = absurd (cc)
same_level (Some m) level same = grind arith

-- a grant that is of the picked level
pub picked_level : (picked : Option ℕ) (e : Edge) {is_picked : Bool} → is_picked ≡ true →
    is_picked ≡ (is_grant e && option_map_or (λ m. m == grant_level e.wire) picked false) → is_grant e ≡ true → picked ≡ Some (grant_level e.wire)
picked_level picked e it is grant =
    same_level picked (grant_level e.wire)
    (ap (λ g. g && option_map_or (λ m. m == grant_level e.wire) picked false) (sym grant) ∙ sym is ∙ it)

-- whether a grant is of the level that is picked, if that is the only one requested
pub pick_alone : (last : ℕ) (e : Edge) (picked : Option ℕ) {is_picked : Bool} → is_picked ≡ (is_grant e && option_map_or (λ m. m == grant_level e.wire) picked false) → is_grant e ≡ true →
    is_picked ≡ is_pick Pri (alone picked) last (grant_level e.wire)
pick_alone last e picked is grant =
    is
    ∙ ap (λ g. g && option_map_or (λ m. m == grant_level e.wire) picked false) grant
    ∙ sym (lone_pick picked last (grant_level e.wire))
