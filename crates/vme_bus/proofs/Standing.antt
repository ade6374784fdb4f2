-- Where a grant stops, it travels: `BusState::grant_at`, `Bus::grant_at`.
use Rattle.std.proofs.Common.{◌≡◌, ◌∙◌, refl, sym, ap, ℕ, Bool, true, false, List, [], ◌∷◌, ◌<◌, ◌≤◌, Option, Some, None, arith}
use Rattle.std.specs.Prelude.{◌&&◌, ◌+◌, ◌==◌, not, option_map, is_some, IsTrue}
use Rattle.std.specs.Option.{option_map_or, option_and_then}
use Rattle.vme_model.specs.declared.boards.Row.{Row}
use Rattle.vme_model.specs.declared.boards.RequesterRow.{RequesterRow}
use Rattle.vme_model.specs.declared.signals.Version.{Version}
use Rattle.vme_model.specs.declared.signals.Driver.TheVariants.{Slot}
use Rattle.vme_model.specs.declared.signals.Edge.{Edge}
use Rattle.vme_model.specs.declared.signals.Wire.TheVariants.{BgOut, Bbsy}
use Rattle.vme_model.specs.Signals.{is_slot}
use Rattle.vme_model.specs.Plan.{Plan, board, requests_on, grant_chain}
use Rattle.vme_model.specs.Accepted.{IsAccepted}
use Rattle.vme_model.specs.History.{drive, input}
use Rattle.vme_model.specs.Readings.{grant_in}
use Rattle.vme_model.specs.GrantSafety.{Travels, OneTravels}
use Rattle.vme_model.specs.Safe.{IsSafe, OnEachPrefix}
use Rattle.vme_model.specs.Verdict.{IsLegal}
use Rattle.vme_model.specs.Stands.{grant_at}
use Rattle.vme_model.proofs.Bools.{and_left, and_right, same_number}
use Rattle.vme_model.proofs.Members.{member_of, is_member, within, one_chain, level_of}
use Rattle.vme_model.proofs.Ranges.{in_range}
use Rattle.vme_model.proofs.Safety.{legal_is_safe}
use Rattle.vme_model.proofs.Standing.{grant_travels, none_travels}
use Rattle.vme_slots.proofs.Slots.{up_to_here}
use Rattle.vme_histories.proofs.AllowedBoards.{stands}
use Rattle.vme_bus.specs.declared.states.BusState.{BusState}
use Rattle.vme_bus.specs.Sets.{has}
use Rattle.vme_bus.specs.States.{IsStateOf}
use Rattle.vme_bus.specs.Steps.{is_stop}
use Rattle.vme_bus.proofs.PlanSlots.{slot_within}

requests_some : (p : Plan) (h : List Edge) (n s : ℕ) (o : Option Row) → option_map_or (requests_on n) o false ≡ true → option_map_or (λ r. is_some r.requester) o false ≡ true
requests_some p h n s None e = absurd (cc)
requests_some p h n s (Some r) e = by_requester r.requester e
  where
    by_requester : (q : Option RequesterRow) → option_map_or (λ x. x.level == n) q false ≡ true → is_some q ≡ true
    by_requester None e = absurd (cc)
    by_requester (Some x) e = refl

grants_some : (p : Plan) (h : List Edge) (o : Option Row) → option_map_or (λ r. option_map_or (λ q. input p h (grant_chain q.level) r.slot) r.requester false) o false ≡ true
    → option_map_or (λ r. is_some r.requester) o false ≡ true
grants_some p h None e = absurd (cc)
grants_some p h (Some r) e = by_requester r.requester e
  where
    by_requester : (q : Option RequesterRow) → option_map_or (λ x. input p h (grant_chain x.level) r.slot) q false ≡ true → is_some q ≡ true
    by_requester None e = absurd (cc)
    by_requester (Some x) e = refl

was_high : (b : Bool) → not b ≡ true → b ≡ false
was_high true e = absurd (cc)
was_high false e = refl

three : (a b c : Bool) → a ≡ true → b ≡ false → c ≡ false → (a && not b && not c) ≡ true
three a b c e f g = rw (e, f, g) refl

-- a slot that is a stop, and the level
travels_there : (p : Plan) → IsAccepted p → (h : List Edge) (s : ℕ) → is_stop p h s ≡ true → (n : ℕ) × Travels p h n s
travels_there p ok h s stops =
    let g = grant_in p h (Slot s) in
    let out = drive h (Slot s) BgOut in
    let bbsy = drive h (Slot s) Bbsy in
    let front = and_left (g && not out) (not bbsy) stops in
    let low = and_left g (not out) front in
    let k = level_of p (in_range p ok) h s (grants_some p h (board p s) low) in (
      k.level,
      record {
        level = k.in_range;
        member = is_member p (in_range p ok) k.level s k.in_range k.member;
        granted = sym k.grant ∙ low;
        unpassed = was_high out (and_right g (not out) front);
        untaken = was_high bbsy (and_right (g && not out) (not bbsy) stops);
      },
    )

pub stops_there : (p : Plan) → IsAccepted p → (h : List Edge) (n s : ℕ) → Travels p h n s → is_stop p h s ≡ true
stops_there p ok h n s t =
    let is_on = member_of p n s t.level t.member in
    let k = level_of p (in_range p ok) h s (requests_some p h n s (board p s) is_on) in
    let same : k.level ≡ n = one_chain p k.level n s k.member is_on in
    three (grant_in p h (Slot s)) (drive h (Slot s) BgOut) (drive h (Slot s) Bbsy)
    (k.grant ∙ ap (λ m. input p h (grant_chain m) s) same ∙ t.granted) t.unpassed t.untaken

one_now : (p : Plan) (h : List Edge) → OnEachPrefix (OneTravels p) h → OneTravels p h
one_now p [] each = each
one_now p (e ∷ h) each = each.0

-- the stop that was found is that of the grant that travels
pub only_stop : (version : Version) (p : Plan) (h : List Edge) → IsAccepted p → IsLegal version p h → (s : ℕ) → is_stop p h s ≡ true → Some s ≡ option_map (λ at. at.1) (grant_at p h)
only_stop version p h ok legal s stops = by_found (grant_at p h) refl
  where
    by_found : (o : Option (ℕ × ℕ)) → grant_at p h ≡ o → Some s ≡ option_map (λ at. at.1) o
    by_found None is = let t = travels_there p ok h s stops in absurd (none_travels p h is t.0 s t.1)
    by_found (Some (m, r)) is =
        let t = travels_there p ok h s stops in
        let one = one_now p h (legal_is_safe version p h ok legal).one_travels m t.0 r s (grant_travels p h m r is) t.1 in
        ap Some (sym one.1)

-- and where none is, none travels
pub no_stop : (p : Plan) (h : List Edge) → IsAccepted p → ((s : ℕ) → 1 ≤ s → s ≤ p.slots → is_stop p h s ≡ false) → None ≡ option_map (λ at. at.1) (grant_at p h)
no_stop p h ok none = by_found (grant_at p h) refl
  where
    by_found : (o : Option (ℕ × ℕ)) → grant_at p h ≡ o → None ≡ option_map (λ at. at.1) o
    by_found None is = refl
    by_found (Some (m, r)) is =
        let t = grant_travels p h m r is in
        let place = within p (in_range p ok) m r (member_of p m r t.level t.member) in
        let off = none r place.0 place.1 in
        let low = stops_there p ok h m r t in
        absurd (cc)

-- no slot up to one passes a test, where none before it does and it does not
pub all_below : (test : ℕ → Bool) (s : ℕ) → ((k : ℕ) → 1 ≤ k → k < s → test k ≡ false) → test s ≡ false → (k : ℕ) → 1 ≤ k → k < s + 1 → test k ≡ false
all_below test s before here k from to = up_to_here (λ x. test x ≡ false) s before here k from (omega arith)

-- the sets say where a grant stops
pub stops_at : (version : Version) (p : Plan) (h : List Edge) (b : BusState) (s : ℕ) → IsStateOf version p h b → ((has b.granted s && not (has b.grants s)) && not (has b.bbsy s)) ≡ is_stop p h s
stops_at version p h b s is =
    ap (λ x. (x && not (has b.grants s)) && not (has b.bbsy s)) (is.granted s)
    ∙ by_input (grant_in p h (Slot s)) refl
  where
    by_board : (o : Option Row) → board p s ≡ o → option_map_or (λ r. is_some r.requester) o false ≡ true → s < 22
    by_board None found e = absurd (cc)
    by_board (Some r) found e = (stands p s r is.accepted found).near

    by_input : (x : Bool) → grant_in p h (Slot s) ≡ x → ((x && not (has b.grants s)) && not (has b.bbsy s)) ≡ ((x && not (drive h (Slot s) BgOut)) && not (drive h (Slot s) Bbsy))
    by_input false e = refl
    by_input true e =
        let near = by_board (board p s) refl (grants_some p h (board p s) e) in
        ap (λ y. not y && not (has b.bbsy s)) (is.grants s near) ∙ ap (λ y. not (drive h (Slot s) BgOut) && not y) (is.bbsy s)

-- ---- the grant, with its level

-- the grant level of the slot's requester; 0 where there is none
abbrev pub level_at : Plan → ℕ → ℕ
level_at p s = option_map_or (λ q. q.level) (option_and_then (λ r. r.requester) (board p s)) 0

level_in : (n : ℕ) (o : Option Row) → option_map_or (requests_on n) o false ≡ true → option_map_or (λ q. q.level) (option_and_then (λ r. r.requester) o) 0 ≡ n
level_in n None e = absurd (cc)
level_in n (Some r) e = by_requester r.requester e
  where
    by_requester : (q : Option RequesterRow) → option_map_or (λ x. x.level == n) q false ≡ true → option_map_or (λ x. x.level) q 0 ≡ n
    by_requester None e = absurd (cc)
    by_requester (Some x) e = same_number x.level n e

-- a grant travels at the level of the board that it stands at
level_there : (p : Plan) (h : List Edge) (n s : ℕ) → Travels p h n s → level_at p s ≡ n
level_there p h n s t = level_in n (board p s) (member_of p n s t.level t.member)

-- where its slot is known, so is it
pub grant_here : (p : Plan) (h : List Edge) (s n : ℕ) → Some s ≡ option_map (λ at. at.1) (grant_at p h) → n ≡ level_at p s → Some (n, s) ≡ grant_at p h
grant_here p h s n here level = by_found (grant_at p h) refl here
  where
    by_found : (o : Option (ℕ × ℕ)) → grant_at p h ≡ o → Some s ≡ option_map (λ at. at.1) o → Some (n, s) ≡ grant_at p h
    by_found None is e = absurd (cc)
    by_found (Some (m, r)) is e =
        let same : s ≡ r = cc in
        let high : n ≡ m = level ∙ ap (level_at p) same ∙ level_there p h m r (grant_travels p h m r is) in
        ap (λ x. Some (x, s)) high ∙ ap (λ x. Some (m, x)) same ∙ sym is

pub grant_nowhere : (p : Plan) (h : List Edge) → None ≡ option_map (λ at. at.1) (grant_at p h) → None ≡ grant_at p h
grant_nowhere p h here = by_found (grant_at p h) refl here
  where
    by_found : (o : Option (ℕ × ℕ)) → grant_at p h ≡ o → None ≡ option_map (λ at. at.1) o → None ≡ grant_at p h
    by_found None is e = sym is
    by_found (Some at) is e = absurd (cc)

-- its level and slot are ones that there can be
pub grant_range : (p : Plan) → IsAccepted p → (h : List Edge) (n s : ℕ) → Some (n, s) ≡ grant_at p h → (n < 4) × IsTrue (is_slot s)
grant_range p ok h n s is =
    let t = grant_travels p h n s (sym is) in
    let place = within p (in_range p ok) n s (member_of p n s t.level t.member) in
    (t.level, slot_within p ok s place.0 place.1)

-- and no other travels
pub only_grant : (p : Plan) (h : List Edge) → IsSafe p h → (m r : ℕ) → Some (m, r) ≡ grant_at p h → (n s : ℕ) → Travels p h n s → (m ≡ n) × (r ≡ s)
only_grant p h safe m r is n s t = one_now p h safe.one_travels m n r s (grant_travels p h m r (sym is)) t

pub no_grant : (p : Plan) (h : List Edge) → None ≡ grant_at p h → (n s : ℕ) → Travels p h n s → ⊥
no_grant p h is n s t = none_travels p h (sym is) n s t
