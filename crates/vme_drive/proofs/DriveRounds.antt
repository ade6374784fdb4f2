-- The rounds of a drive, what it leaves, and that the edges made are well formed.
use Rattle.std.proofs.Common.{◌≡◌, ◌≢◌, ◌⊎◌, inl, inr, ℕ, zero, suc, ◌+◌, ◌<◌, ◌≤◌, ◌%◌, List, [], ◌∷◌, length, Ok, Err, Bool, true, false, Option, Some, None, refl, sym, ◌∙◌, ap, subst, arith, reverse, IsTrue, slice_get, ◌==◌, if◌then◌else◌, eq-eqb, ne_eqb}
use Rattle.std.specs.Option.{option_map_or}
use Rattle.std.proofs.lemmas.Option.{get_or_from_slice_get, slice_get_within}
use Rattle.std.proofs.lemmas.List.Elements.{All-get_or}
use Rattle.std.specs.Io.KnownBytes.{Appends}
use Rattle.vme_model.specs.declared.signals.Version.{Version}
use Rattle.vme_model.specs.declared.signals.Driver.{Driver}
use Rattle.vme_model.specs.declared.signals.Edge.{Edge}
use Rattle.vme_model.specs.Plan.{Plan, drivers}
use Rattle.vme_model.specs.Accepted.{IsAccepted}
use Rattle.vme_model.specs.History.{in_order}
use Rattle.vme_model.specs.Safe.{IsSafe}
use Rattle.vme_model.specs.Signals.{is_well_formed}
use Rattle.vme_model.specs.Verdict.{State, made, IsLegal}
use Rattle.vme_model.specs.Offers.{offered, turn, turns, rounds_from, rounds}
use Rattle.vme_model.specs.Report.{trace_limit}
use Rattle.vme_model.specs.Text.{text}
use Rattle.vme_trace.specs.declared.Fault.{Fault}
use Rattle.vme_trace.specs.declared.Fault.TheVariants.{Write}
use Rattle.vme_trace.specs.Writing.{AppendsFront}
use Rattle.vme_reading.specs.declared.Status.{Status}
use Rattle.vme_reading.specs.declared.Status.TheVariants.{Done, Limit}
use Rattle.vme_reading.specs.declared.EngineFault.TheVariants as fault
use Rattle.vme_reading.specs.Outcomes.{bench}
use Rattle.vme_drive.specs.Driving.{driven, driven_text, Drives}
use Rattle.vme_reading.proofs.LegalTrace.{all_well_formed, legal_trace}

-- ---- a turn

turn_else : (t : Bool) (b : State) (o : Option Edge) → o ≡ None → (if t then b else option_map_or (made b) o b) ≡ b
turn_else true b o e = refl
turn_else false b o e = rw e refl

-- nothing is offered
pub turn_none : (r n : ℕ) (b : State) (d : Driver) → slice_get (offered b d) (r % length (offered b d)) ≡ None → b ≡ turn r n b d
turn_none r n b d e = sym (turn_else (length b.history == n) b (slice_get (offered b d) (r % length (offered b d))) e)

-- ---- rounds

-- the backplane as it was, or one that grew
pub record IsLater (b c : State) : Type 0 where
  pub version : c.version ≡ b.version
  pub plan : c.plan ≡ b.plan
  pub grown : (c ≡ b) ⊎ (length b.history < length c.history)

same_later : (b : State) → IsLater b b
same_later b = record { version = refl; plan = refl; grown = inl refl }

later_made : (b : State) (o : Option Edge) → IsLater b (option_map_or (made b) o b)
later_made b None = same_later b
later_made b (Some e) = record { version = refl; plan = refl; grown = inr (omega arith) }

later_turn : (t : Bool) (b : State) (o : Option Edge) → IsLater b (if t then b else option_map_or (made b) o b)
later_turn true b o = same_later b
later_turn false b o = later_made b o

later_still : (b c d : State) → IsLater b c → IsLater c d → IsLater b d
later_still b c d f g = record {
  version = g.version ∙ f.version;
  plan = g.plan ∙ f.plan;
  grown = elim f.grown [
    | inl e ↦ elim g.grown [ inl k ↦ inl (k ∙ e) | inr k ↦ inr (subst (λ (s : State). length s.history < length d.history) e k) ]
    | inr e ↦ elim g.grown [ inl k ↦ inr (subst (λ (s : State). length b.history < length s.history) (sym k) e) | inr k ↦ inr (omega arith) ]
  ];
}

pub later : (r n : ℕ) (b : State) (ds : List Driver) → IsLater b (turns r n b ds)
later r n b [] = same_later b
later r n b (d ∷ ds) = later_still b (turn r n b d) (turns r n (turn r n b d) ds) (later_turn (length b.history == n) b _) (later r n (turn r n b d) ds)

-- no more edges: nothing changed
pub same_length : (b c : State) → IsLater b c → length c.history ≡ length b.history → c ≡ b
same_length b c h e = elim h.grown [ inl same ↦ same | inr grew ↦ absurd (omega arith) ]

round_when : (t : Bool) (b c : State) → t ≡ true → (if t then b else c) ≡ b
round_when t b c e = rw e refl

round_else : (t : Bool) (b c : State) → t ≡ false → (if t then b else c) ≡ c
round_else t b c e = rw e refl

module _ (r n left : ℕ) (b next : State) (is : next ≡ turns r n b (drivers b.plan)) where
  pub last_round : length next.history ≡ length b.history → next ≡ rounds_from (suc left) r n b
  last_round e =
      let same : next ≡ b = same_length b next (subst (IsLater b) (sym is) (later r n b (drivers b.plan))) e in
      let none : length (turns r n b (drivers b.plan)).history ≡ length b.history = ap (λ s. length s.history) (sym is) ∙ e in
      same ∙ sym (round_when (length (turns r n b (drivers b.plan)).history == length b.history) b _ (eq-eqb _ _ none))

  pub next_round : length next.history ≢ length b.history → rounds_from (suc left) r n b ≡ rounds_from left (r + 1) n next
  next_round ne =
      let some : length (turns r n b (drivers b.plan)).history ≢ length b.history = λ e. ne (ap (λ s. length s.history) is ∙ e) in
      round_else (length (turns r n b (drivers b.plan)).history == length b.history) b _ (ne_eqb _ _ some)
      ∙ ap (rounds_from left (r + 1) n) (sym is)

later_round : (t : Bool) (b c d : State) → IsLater b c → IsLater c d → IsLater b (if t then b else d)
later_round true b c d f g = same_later b
later_round false b c d f g = later_still b c d f g

pub rounds_later : (left r n : ℕ) (b : State) → IsLater b (rounds_from left r n b)
rounds_later zero r n b = same_later b
rounds_later (suc left) r n b =
    let next = turns r n b (drivers b.plan) in
    later_round (length next.history == length b.history) b next (rounds_from left (r + 1) n next) (later r n b (drivers b.plan)) (rounds_later left (r + 1) n next)

-- ---- what a drive leaves

module _ (p : Plan) (version : Version) (n : ℕ) (b : State) (is : b ≡ rounds (bench p version) n) where
  grew : IsLater (bench p version) b
  grew = subst (IsLater (bench p version)) (sym is) (rounds_later n 0 n (bench p version))

  history_is : b.history ≡ driven p version n
  history_is = ap (λ s. s.history) is

  text_is : text b.version (in_order b.history) ≡ driven_text p version n
  text_is = ap (λ v. text v (in_order b.history)) grew.version ∙ ap (λ h. text version (in_order h)) history_is

  pub drives_done : (old new : Option (List ℕ)) (status : Status) → Appends old new (text b.version (in_order b.history)) → IsLegal b.version b.plan b.history → IsAccepted b.plan
      → length b.history ≤ trace_limit → status ≡ (if length b.history == n then Limit else Done) → Drives version n old new p (Ok status)
  drives_done old new status w legal accepted fits ends =
      let is_legal : IsLegal version p (driven p version n) =
      subst (IsLegal version p) history_is (subst (λ (q : Plan). IsLegal version q b.history) grew.plan (subst (λ (v : Version). IsLegal v b.plan b.history) grew.version legal)) in
      let few : length (driven p version n) ≤ trace_limit = subst (λ (h : List Edge). length h ≤ trace_limit) history_is fits in (
        subst (Appends old new) text_is w,
        is_legal,
        legal_trace p version (driven p version n) (subst IsAccepted grew.plan accepted) is_legal few,
        ends ∙ ap (λ h. if length h == n then Limit else Done) history_is,
      )

  pub drives_cut : (old new : Option (List ℕ)) (f : Fault) → f ≡ Write → AppendsFront old new (text b.version (in_order b.history)) → Drives version n old new p (Err (fault.Trace f))
  drives_cut old new f e w = (e, subst (AppendsFront old new) text_is w)

  pub drives_safe : IsSafe b.plan b.history → IsSafe p (driven p version n)
  drives_safe safe = subst (IsSafe p) history_is (subst (λ (q : Plan). IsSafe q b.history) grew.plan safe)

-- ---- the lines of a legal list

pub well_formed_at : (version : Version) (p : Plan) (h : List Edge) (i : ℕ) (e : Edge) → IsLegal version p h → slice_get (reverse h) i ≡ Some e → IsTrue (is_well_formed e)
well_formed_at version p h i e l at =
    subst (λ (x : Edge). IsTrue (is_well_formed x)) (get_or_from_slice_get (reverse h) i e e at)
    (All-get_or (λ e. IsTrue (is_well_formed e)) (reverse h) i e (slice_get_within (reverse h) i e at) (all_well_formed version p h l))
