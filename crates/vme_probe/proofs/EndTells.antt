-- The last lines leave out no bus that shows the whole capture: `laws`.
use Rattle.std.proofs.Common.{◌≡◌, ◌⊎◌, ◌∙◌, ◌<◌, ◌++◌, ◌∷◌, [], ℕ, zero, suc, Bool, true, false, List, Some, refl, sym, ap, subst, inl, inr, arith}
use Rattle.std.specs.Prelude.{◌==◌, nat_lt}
use Rattle.std.specs.List.{Contains}
use Rattle.std.proofs.lemmas.Bool.{and_parts}
use Rattle.std.proofs.lemmas.Bool.Decides.{nat_tests}
use Rattle.std.proofs.lemmas.List.Elements.{Contains-append_cases, Contains-append_left, Contains-append_right, Contains-push, Contains-push_cases}
use Rattle.vme_model.specs.declared.signals.Driver.TheVariants.{Slot}
use Rattle.vme_model.specs.declared.signals.Edge.{Edge}
use Rattle.vme_model.specs.declared.signals.Version.{Version}
use Rattle.vme_model.specs.declared.signals.Wire.TheVariants.{Bbsy}
use Rattle.vme_model.specs.Accepted.{IsAccepted}
use Rattle.vme_model.specs.History.{drive}
use Rattle.vme_model.specs.Plan.{Plan}
use Rattle.vme_model.specs.Verdict.{IsLegal}
use Rattle.vme_captures.specs.declared.signals.Change.{Change}
use Rattle.vme_captures.specs.declared.signals.Entry.{Entry}
use Rattle.vme_captures.specs.declared.signals.Signal.{Signal}
use Rattle.vme_captures.specs.declared.signals.Signal.TheVariants as signal
use Rattle.vme_captures.specs.Changes.{seen}
use Rattle.vme_captures.specs.Feeding.{probes_of}
use Rattle.vme_captures.specs.Possible.{Explains}
use Rattle.vme_captures.specs.Reading.{capture_of, changes, pins}
use Rattle.vme_bus.specs.declared.sets.SlotSet.{SlotSet}
use Rattle.vme_bus.specs.Sets.{has}
use Rattle.vme_standings.specs.declared.phases.GrantPhase.TheVariants.{Held}
use Rattle.vme_standings.specs.declared.standings.Drivers.{Drivers}
use Rattle.vme_standings.specs.declared.standings.Probed.{Probed}
use Rattle.vme_standings.specs.declared.standings.Standings.{Standings}
use Rattle.vme_standings.specs.Covers.{Covers}
use Rattle.vme_standings.specs.Driving.{AreDrivers}
use Rattle.vme_standings.specs.Hidden.{HasMoved}
use Rattle.vme_standings.specs.Phases.{has_phase, is_in_table}
use Rattle.vme_standings.proofs.GrantOthers.{held_from, in_table}
use Rattle.vme_standings.proofs.JoinedCaptures.{explained}
use Rattle.vme_standings.proofs.JoinedRows.{seen_step, somebody}
use Rattle.vme_standings.proofs.JoinedWaits.{grant_told, nowhere_told}
use Rattle.vme_standings.proofs.Tests.{is_false, never}
use Rattle.vme_probe.specs.declared.judging.Known.{Known}
use Rattle.vme_probe.specs.Ends.{Coming, next_changes, standing_text, waits_at}
use Rattle.vme_probe.specs.Knowing.{Ends}
use Rattle.vme_probe.specs.Lines.{may_come_line, places_text, slot_text, slots_below, slots_text}
use Rattle.vme_probe.specs.Naming.{NamesNext, Tells, TellsAll, Told, coming_text, last_text}
use Rattle.vme_probe.proofs.NextLines.{IsAmong, line_next}
use Rattle.vme_probe.proofs.NextPins.{ArePinsAsSaid, line_there, pin_next}
use Rattle.vme_probe.proofs.PinLevels.{pin_level}
use Rattle.vme_probe.proofs.Pullers.{asker, puller}
use Rattle.vme_probe.proofs.Said.{AllSaid}
use Rattle.vme_probe.proofs.Tied.{Tied}

-- ---- the lines of what may come

-- these lines have one for each of the changes
record Lists (p : Plan) (probed : Probed) (st : Standings) (cs : List Change) (text : List ℕ) : Type 0 where
  all : List (Change × Drivers)
  is : text ≡ coming_text all
  each : (c : Change) → Contains cs c → (d : Drivers) × AreDrivers p probed st c d × Contains all (c, d)

none_there : {X : Type 0} (x : X) → Contains {X = X} [] x → ⊥
none_there x (k, less, at) = omega (arith, less)

-- who may make a change, as they are listed
abbrev Listed : Plan → Probed → Standings → List (Change × Drivers) → Change → Type 0
Listed p probed st all c = (d : Drivers) × AreDrivers p probed st c d × Contains all (c, d)

lists : (p : Plan) (probed : Probed) (st : Standings) (cs : List Change) (text : List ℕ) → Coming p probed st cs text → Lists p probed st cs text
lists p probed st [] text is = record {
  all = [];
  is = is;
  each = λ c there. absurd (none_there c there);
}
lists p probed st (k ∷ cs) text (d, others, drivers, coming, is) =
    let rest = lists p probed st cs others coming in
    record {
      all = (k, d) ∷ rest.all;
      is = is ∙ ap (λ l. may_come_line k d ++ l) rest.is;
      each = λ c there. by_place c (Contains-append_cases (k ∷ []) cs c there) rest.all rest.each;
    }
  where
    head : (c : Change) (all : List (Change × Drivers)) → Contains {X = Change} [] c ⊎ (k ≡ c) → Listed p probed st ((k, d) ∷ all) c
    head c all (inl nay) = absurd (none_there c nay)
    head c all (inr same) = subst (Listed p probed st ((k, d) ∷ all)) same (d, drivers, first all)
      where
        first : (all : List (Change × Drivers)) → Contains ((k, d) ∷ all) (k, d)
        first all = Contains-append_left ((k, d) ∷ []) all (k, d) (Contains-push [] (k, d))

    by_place : (c : Change) → Contains (k ∷ []) c ⊎ Contains cs c → (all : List (Change × Drivers)) → ((x : Change) → Contains cs x → Listed p probed st all x) → Listed p probed st ((k, d) ∷ all) c
    by_place c (inl here) all each = head c all (Contains-push_cases [] k c here)
    by_place c (inr there) all each =
        let t = each c there in
        (t.0, t.1, Contains-append_right ((k, d) ∷ []) all (c, t.0) t.2)

-- ---- no name is printed

no_slot : (test : ℕ → Bool) (n s : ℕ) → slots_below test n ≡ [] → s < n → test s ≡ false
no_slot test zero s none less = absurd (omega arith)
no_slot test (suc n) s none less = by_place (s == n) refl (parts (slots_below test n) (slot_text (test n) n) none) (λ x under. no_slot test n s x under)
  where
    parts : (xs ys : List ℕ) → xs ++ ys ≡ [] → (xs ≡ []) × (ys ≡ [])
    parts [] ys is = (refl, is)
    parts (x ∷ xs) ys is = absurd (cc)

    unnamed : (b : Bool) → slot_text b n ≡ [] → b ≡ false
    unnamed true is = absurd (cc)
    unnamed false is = refl

    same : (s == n) ≡ true → s ≡ n
    same is = grind (arith, nat_tests)

    below : (s == n) ≡ false → s < n
    below is = grind (arith, nat_tests)

    by_place : (b : Bool) → (s == n) ≡ b → (slots_below test n ≡ []) × (slot_text (test n) n ≡ []) → (slots_below test n ≡ [] → s < n → test s ≡ false) → test s ≡ false
    by_place true is x earlier = subst (λ t. test t ≡ false) (sym (same is)) (unnamed (test n) x.1)
    by_place false is x earlier = earlier x.0 (below is)

-- ---- all of it

-- the text leaves out no bus that what is known covers, if the probed pins stand as was said
pub record TellsCovered (p : Plan) (version : Version) (said : List Entry) (st : Standings) (text : List ℕ) : Type 0 where
  pub told : Told
  pub is : text ≡ last_text p told
  pub tells : (h : List Edge) → IsLegal version p h → Covers p (pins said) h st → ArePinsAsSaid p said h → Tells p version (pins said) h told

module _ (p : Plan) (ok : IsAccepted p) (probed : Probed) (said : List Entry) (k : Known) (probed_is : k.probed ≡ probed) (text : List ℕ) (ends : Ends p k (probes_of p said) text) where
  abbrev st : Standings
  st = ends.hidden

  abbrev holders : SlotSet
  holders = ends.is.stands.holders

  -- what comes next
  coming : Lists p k.probed st (next_changes st (probes_of p said)) ends.is.adds.text
  coming = lists p k.probed st (next_changes st (probes_of p said)) ends.is.adds.text ends.is.adds.coming

  abbrev told : Told
  told = record {
    st = st;
    holders = holders;
    nowhere = ends.is.stands.places_are.nowhere;
    count = k.changes;
    coming = coming.all;
  }

  text_is : text ≡ last_text p told
  text_is = ends.is.adds.added ∙ ap (λ l. ends.is.standing ++ l) coming.is ∙ ap (λ l. l ++ coming_text coming.all) standing_is
    where
      standing_is : ends.is.standing ≡ standing_text p st holders (places_text ends.is.stands.places_are.nowhere (waits_at p st.phases)) k.changes
      standing_is =
          ends.is.stands.is
          ∙ ap (λ l. standing_text p st holders l k.changes) ends.is.stands.places_are.is

  -- a bus that what is known covers
  module _ (h : List Edge) (legal : IsLegal probed.version p h) (covers : Covers p (pins said) h st) where
    -- the boards that hold the bus
    held : (s : ℕ) → drive h (Slot s) Bbsy ≡ true → (s < 22) × (has holders s ≡ true)
    held s on =
        let f = held_from p h s on covers.phases.phase covers.phases.is_in in
        let there = in_table probed.version p ok h legal covers.phases.phase covers.phases.is_in in
        let less = few f.0 (subst (λ q. is_in_table q ≡ true) f.1 there) in
        (less, ends.is.stands.holders_are.all s f.0 less (subst (λ q. has_phase st.phases q ≡ true) f.1 covers.phases.member))
      where
        few : (first : ℕ) → is_in_table (Held s first) ≡ true → s < 22
        few first is = let lt = (and_parts (nat_lt s 22) (nat_lt first 22) is).0 in grind (arith, nat_tests)

    module _ (levels : ArePinsAsSaid p said h) where
      module _ (e : Edge) (v : Change) (allowed : IsLegal probed.version p (e ∷ h)) (s : seen p (pins said) h e ≡ Some v) where
        among : IsAmong (next_changes st (probes_of p said)) v
        among = by_signal v.signal refl
          where
            by_signal : (y : Signal) → v.signal ≡ y → IsAmong (next_changes st (probes_of p said)) v
            by_signal (signal.Line l) is =
                let a = line_next probed.version p ok (pins said) h e v allowed s st covers l is in
                record { change = a.change; there = line_there st (probes_of p said) a.change a.there; agrees = a.agrees }
            by_signal (signal.Pin q) is = pin_next p ok said h levels e v s q is st

        next : NamesNext coming.all v e.driver
        next =
            let drivers = coming.each among.change among.there in
            let step = seen_step probed p ok (pins said) h e v allowed s st covers among.change among.agrees in
            let by = step.by drivers.0 (subst (λ y. AreDrivers p y st among.change drivers.0) probed_is drivers.1) in
            record {
              change = among.change;
              drivers = drivers.0;
              there = drivers.2;
              agrees = among.agrees;
              some = somebody drivers.0 e.driver by;
              among = by;
            }

      tells : Tells p probed.version (pins said) h told
      unfolding slots_text
      tells = record {
        holder = λ s on. (held s on).1;
        free = λ none s. is_false (drive h (Slot s) Bbsy) (λ on. let y = held s on in never (has holders s) y.1 (no_slot (has holders) 22 s none y.0));
        granted = grant_told p ok h (pins said) st covers;
        none = λ nay.
            let q = nowhere_told p ok h (pins said) st covers probed.version legal nay in
            ends.is.stands.places_are.nowhere_is.all q.0 q.1 q.2 q.3;
        addresser = covers.addressers;
        shown = covers.shown.shown;
        quiet = covers.shown.high;
        levels = covers.levels.shared;
        asker = asker probed.version p ok (pins said) h legal st covers;
        puller = puller probed.version p ok (pins said) h legal st covers;
        next = next;
      }

  pub tells_covered : TellsCovered p probed.version said st text
  tells_covered = record { told = told; is = text_is; tells = tells }

-- what is known behind a whole capture covers each bus that shows it
pub tells_all : (p : Plan) (ok : IsAccepted p) (version : Version) (said : List Entry) → AllSaid p said → (k : Known) → Tied p ok version said k → (text : List ℕ) → Ends p k (probes_of p said) text
    → TellsAll p (capture_of version said) text
tells_all p ok version said all k t text ends = record {
  told = covered.told;
  is = covered.is;
  tells = λ g h x. covered.tells (h ++ g) x.legal (covers g h x) (pin_level p ok version said all g h x);
}
  where
    covered : TellsCovered p version said ends.hidden text
    covered = subst (λ y. TellsCovered p y said ends.hidden text) (sym t.version) (tells_covered p ok t.probed said k t.probed_is text ends)

    covers : (g h : List Edge) → Explains p (capture_of version said) g h → Covers p (pins said) (h ++ g) ends.hidden
    covers g h x =
        explained p ok t.probed (capture_of version said) t.version t.probes g x.begins t.first t.starts h x.legal (changes said) x.shows
        k.standings ends.hidden t.follows (subst (λ y. HasMoved p y k.standings ends.hidden) t.probed_is ends.moved)
