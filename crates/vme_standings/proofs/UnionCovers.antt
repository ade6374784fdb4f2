-- What covers the whole bus by one of two standings covers it by their union.
use Rattle.std.proofs.Common.{◌≡◌, ◌∙◌, sym, ap, subst, true, List, inl, inr}
use Rattle.std.specs.Prelude.{is_some}
use Rattle.vme_model.specs.declared.signals.Edge.{Edge}
use Rattle.vme_model.specs.declared.signals.Version.{Version}
use Rattle.vme_model.specs.declared.signals.Wire.TheVariants as wire
use Rattle.vme_model.specs.Accepted.{IsAccepted}
use Rattle.vme_model.specs.Plan.{Plan}
use Rattle.vme_model.specs.Verdict.{IsLegal}
use Rattle.vme_captures.specs.declared.signals.Pin.{Pin}
use Rattle.vme_captures.specs.Levels.{is_line_left_low}
use Rattle.vme_standings.specs.declared.standings.Standings.{Standings}
use Rattle.vme_standings.specs.Covers.{AreLevels, Covers, KnowsShown, KnowsStrobed}
use Rattle.vme_standings.specs.InPhase.{CoversGrants}
use Rattle.vme_standings.specs.Segments.{has_segment}
use Rattle.vme_standings.specs.Unions.{SeeAlike, Unites}
use Rattle.vme_standings.proofs.GrantOthers.{in_table}
use Rattle.vme_standings.proofs.UnionLaws.{drivers_covered, fronts_covered, phases_had, requests_covered}
use Rattle.vme_standings.proofs.WhoDrives.{line_shows}

module _ (version : Version) (p : Plan) (pins : List Pin) (ok : IsAccepted p) (h : List Edge) (legal : IsLegal version p h) (a b new : Standings) (unites : Unites a b new) where
  alike_first : SeeAlike new a
  alike_first = record {
    lines = λ l. ap (λ x. is_line_left_low x l) unites.lines;
    low = λ c s. ap (λ x. has_segment x c s) unites.low;
    shown = unites.shown;
    strobed = λ low. unites.strobed;
  }

  alike_second : SeeAlike a b → SeeAlike new b
  alike_second alike = record {
    lines = λ l. alike_first.lines l ∙ alike.lines l;
    low = λ c s. alike_first.low c s ∙ alike.low c s;
    shown = unites.shown ∙ alike.shown;
    strobed = λ low. unites.strobed ∙ alike.strobed (subst (λ k. is_some k ≡ true) unites.shown low);
  }

  levels : (x : Standings) → SeeAlike new x → Covers p pins h x → AreLevels p pins h new.lines new.low
  levels x alike covers = record {
    shared = λ l on. alike.lines l ∙ covers.levels.shared l on;
    probed = λ c s. alike.low c s ∙ covers.levels.probed c s;
  }

  strobed : (x : Standings) → SeeAlike new x → Covers p pins h x → KnowsStrobed h new.strobed
  strobed x alike covers s on =
      let low = covers.shown.low (line_shows version p ok h legal s wire.AddressStrobe on) in
      alike.strobed (subst (λ k. is_some k ≡ true) (sym alike.shown) low) ∙ covers.strobed s on

  phase_first : CoversGrants p h a.phases → CoversGrants p h new.phases
  phase_first covers = record {
    phase = covers.phase;
    is_in = covers.is_in;
    member = phases_had a.phases b.phases new.phases covers.phase unites.phases (in_table version p ok h legal covers.phase covers.is_in) (inl covers.member);
  }

  phase_second : CoversGrants p h b.phases → CoversGrants p h new.phases
  phase_second covers = record {
    phase = covers.phase;
    is_in = covers.is_in;
    member = phases_had a.phases b.phases new.phases covers.phase unites.phases (in_table version p ok h legal covers.phase covers.is_in) (inr covers.member);
  }

  pub first_covers : Covers p pins h a → Covers p pins h new
  first_covers covers = record {
    levels = levels a alike_first covers;
    shown = subst (λ k. KnowsShown p h k) (sym unites.shown) covers.shown;
    strobed = strobed a alike_first covers;
    phases = phase_first covers.phases;
    addressers = drivers_covered h wire.AddressStrobe a.addressers b.addressers new.addressers unites.addressers (inl covers.addressers);
    answerers = drivers_covered h wire.Dtack a.answerers b.answerers new.answerers unites.answerers (inl covers.answerers);
    fronts = fronts_covered p h a.fronts b.fronts new.fronts unites.fronts (inl covers.fronts);
    requests = requests_covered p h a.requests b.requests new.requests unites.requests (inl covers.requests);
  }

  pub second_covers : SeeAlike a b → Covers p pins h b → Covers p pins h new
  second_covers alike covers = record {
    levels = levels b (alike_second alike) covers;
    shown = subst (λ k. KnowsShown p h k) (sym (alike_second alike).shown) covers.shown;
    strobed = strobed b (alike_second alike) covers;
    phases = phase_second covers.phases;
    addressers = drivers_covered h wire.AddressStrobe a.addressers b.addressers new.addressers unites.addressers (inr covers.addressers);
    answerers = drivers_covered h wire.Dtack a.answerers b.answerers new.answerers unites.answerers (inr covers.answerers);
    fronts = fronts_covered p h a.fronts b.fronts new.fronts unites.fronts (inr covers.fronts);
    requests = requests_covered p h a.requests b.requests new.requests unites.requests (inr covers.requests);
  }
