-- The numbers that a line names are those of falls.
use Rattle.std.proofs.Common.{◌≡◌, ℕ, Bool, true, false, List, [], ◌∷◌, Option, Some, None, unwrap_or, refl, ◌∙◌, ap, arith}
use Rattle.std.specs.Prelude.{◌&&◌, not, if◌then◌else◌}
use Rattle.std.proofs.lemmas.List.Elements.{Contains-append_right}
use Rattle.vme_model.specs.declared.boards.Row.{Row}
use Rattle.vme_model.specs.declared.deliveries.Delivery.{Delivery}
use Rattle.vme_model.specs.declared.signals.Version.{Version}
use Rattle.vme_model.specs.declared.signals.Cycle.{Cycle}
use Rattle.vme_model.specs.declared.signals.Cycle.TheVariants.{Acknowledge, Access}
use Rattle.vme_model.specs.declared.signals.Driver.{Driver}
use Rattle.vme_model.specs.declared.signals.Driver.TheVariants.{Controller, Slot}
use Rattle.vme_model.specs.declared.signals.Wire.{Wire}
use Rattle.vme_model.specs.declared.signals.Wire.TheVariants.{Br, Bbsy, Irq, Dtack}
use Rattle.vme_model.specs.declared.signals.Edge.{Edge}
use Rattle.vme_model.specs.Signals.{is_edge_of}
use Rattle.vme_model.specs.Plan.{Plan, board_of}
use Rattle.vme_model.specs.Deliveries.{delivered_by, delivery}
use Rattle.vme_model.specs.GrantSafety.{is_fall_on}
use Rattle.vme_model.specs.History.{addressing, drive, shown}
use Rattle.vme_model.specs.Numbered.{Numbered, edges_in, since}
use Rattle.vme_model.specs.Readings.{is_pending, readings}
use Rattle.vme_model.specs.Rules.{may_answer}
use Rattle.vme_model.specs.Verdict.{IsLegal}
use Rattle.vme_model.proofs.AllowedEdges.{all_passed}
use Rattle.vme_model.proofs.Bools.{and_left, and_right, never}
use Rattle.vme_cycles.specs.Transactions.{IsFallAt, last_on, request_of}

-- an edge by its parts, and that it may follow
abbrev pub edge : Driver → Wire → Bool → Option Cycle → Edge
edge d w fall c = record { driver = d; wire = w; fall = fall; value = c }

abbrev pub IsNext : Version → Plan → Numbered → Edge → Type 0
IsNext v p k e = IsLegal v p (e ∷ edges_in k)

abbrev pub AtEach : Version → Plan → (Numbered → Edge → Type 0) → Type 0
AtEach v p Q = (k : Numbered) (d : Driver) (w : Wire) (fall : Bool) (c : Option Cycle) → IsNext v p k (edge d w fall c) → Q k (edge d w fall c)

pub both : (a b : Bool) → a ≡ true → b ≡ true → (a && b) ≡ true
both a b e f = rw (e, f) refl

-- a wire that is low has its fall
last_fall : (k : Numbered) (d : Driver) (w : Wire) → drive (edges_in k) d w ≡ true → IsFallAt k d w (last_on k d w)
last_fall [] d w low = absurd (never low)
last_fall ((n, e) ∷ k) d w low = by_edge (is_edge_of d w e) refl (last_fall k d w) low
  where
    by_edge : (b : Bool) → is_edge_of d w e ≡ b → (drive (edges_in k) d w ≡ true → IsFallAt k d w (last_on k d w)) → (if b then e.fall else drive (edges_in k) d w) ≡ true
        → IsFallAt ((n, e) ∷ k) d w (unwrap_or (if b then Some n else since k d w) 0)
    by_edge true same before falls = (e, both e.fall (is_edge_of d w e) falls same, (0, omega arith, refl))
    by_edge false same before low = let found = before low in (found.0, found.1, Contains-append_right ((n, e) ∷ []) k (last_on k d w, found.0) found.2)

-- who answers an acknowledge is pending
pending_low : (p : Plan) (h : List Edge) (t : ℕ) (sh : Option Cycle) (to : Option ℕ) (row : Option Row) (sent : Delivery)
    → delivered_by sh to row ≡ Some sent → may_answer (readings p h (Slot t)) sh ≡ true → drive h (Slot t) Irq ≡ true
pending_low p h t None to row sent is r = absurd (cc)
pending_low p h t (Some (Acknowledge level)) to row sent is r =
    let q : is_pending (readings p h (Slot t)) level ≡ true = and_right _ _ r in and_right _ _ (and_left _ _ q)
pending_low p h t (Some (Access x)) to row sent is r = absurd (cc)

tenure_meets : (v : Version) (p : Plan) → AtEach v p (λ k e. is_fall_on Bbsy e ≡ true → IsFallAt k e.driver Br (request_of k e))
tenure_meets v p k (Slot t) Bbsy true c l is = last_fall k (Slot t) Br (and_right _ _ (all_passed v p (edges_in k) (Slot t) Bbsy true c l.0).rule)
tenure_meets v p k Controller Bbsy true c l is = absurd (cc (all_passed v p (edges_in k) Controller Bbsy true c l.0).wire)
tenure_meets v p k d w true c l is = absurd (cc)
tenure_meets v p k d w false c l is = absurd (cc)

status_meets : (v : Version) (p : Plan) → AtEach v p (λ k e. (sent : Delivery) → delivery p (edges_in k) e ≡ Some sent → IsFallAt k e.driver Irq (request_of k e))
status_meets v p k (Slot t) Dtack true c l sent is =
    let h = edges_in k in
    last_fall k (Slot t) Irq (pending_low p h t (shown p h) (addressing p h) (board_of p (Slot t)) sent is (and_right _ _ (all_passed v p h (Slot t) Dtack true c l.0).rule))
status_meets v p k Controller Dtack true c l sent is = absurd (cc (all_passed v p (edges_in k) Controller Dtack true c l.0).wire)
status_meets v p k d w true c l sent is = absurd (cc)
status_meets v p k d w false c l sent is = absurd (cc)

pub line_begins : (v : Version) (p : Plan) (k : Numbered) (n : ℕ) (e : Edge) → IsNext v p k e → e.fall ≡ false → IsFallAt k e.driver e.wire (last_on k e.driver e.wire)
line_begins v p k n e l rises = last_fall k e.driver e.wire ((all_passed v p (edges_in k) e.driver e.wire e.fall e.value l.0).before ∙ ap not rises)

pub tenure_meets_request : (v : Version) (p : Plan) (k : Numbered) (n : ℕ) (e : Edge) → IsNext v p k e → is_fall_on Bbsy e ≡ true → IsFallAt k e.driver Br (request_of k e)
tenure_meets_request v p k n e l is = tenure_meets v p k e.driver e.wire e.fall e.value l is

pub status_meets_request : (v : Version) (p : Plan) (k : Numbered) (n : ℕ) (e : Edge) (sent : Delivery)
    → IsNext v p k e → delivery p (edges_in k) e ≡ Some sent → IsFallAt k e.driver Irq (request_of k e)
status_meets_request v p k n e sent l is = status_meets v p k e.driver e.wire e.fall e.value l sent is
