-- Whoever may have made a change of a sample is named, and a sample behind which nothing is known is
-- shown by no bus: `sample_laws`.
use Rattle.std.proofs.Common.{◌≡◌, ◌∙◌, ◌<◌, ◌≤◌, ◌++◌, ◌∷◌, [], ℕ, zero, suc, Bool, true, false, List, Option, Some, None, length, take, refl, sym, ap, subst, arith, append_assoc}
use Rattle.std.specs.Prelude.{◌==◌}
use Rattle.std.specs.List.{slice_get}
use Rattle.std.specs.Option.{option_map_or}
use Rattle.std.proofs.lemmas.Nat.Bits.{bit_at_ones}
use Rattle.vme_model.specs.Accepted.{IsAccepted}
use Rattle.vme_model.specs.Plan.{Plan}
use Rattle.vme_model.specs.Verdict.{IsLegal}
use Rattle.vme_model.specs.declared.signals.Edge.{Edge}
use Rattle.vme_model.specs.declared.signals.Version.{Version}
use Rattle.vme_captures.specs.declared.signals.Change.{Change}
use Rattle.vme_captures.specs.declared.signals.Entry.{Entry}
use Rattle.vme_captures.specs.declared.signals.Entry.TheVariants as entry
use Rattle.vme_captures.specs.Possible.{AgreeEach, Begins as CaptureBegins, Explains, sightings}
use Rattle.vme_captures.specs.Reading.{changes, pins}
use Rattle.vme_standings.specs.declared.standings.Drivers.{Drivers}
use Rattle.vme_standings.specs.declared.standings.Probed.{Probed}
use Rattle.vme_standings.specs.declared.standings.Standings.{Standings}
use Rattle.vme_standings.specs.Behind.{IsBehind}
use Rattle.vme_standings.specs.Covers.{AreProbed}
use Rattle.vme_standings.specs.Driving.{AreDrivers}
use Rattle.vme_standings.specs.Hidden.{HasMoved}
use Rattle.vme_standings.specs.Standings.{is_nobody}
use Rattle.vme_samples.specs.declared.makers.Makers.{Makers}
use Rattle.vme_samples.specs.declared.samples.SeenChange.{SeenChange}
use Rattle.vme_samples.specs.Makers.{by_at}
use Rattle.vme_samples.specs.Orders.{AreNamed, AreOrdersOf, CoversHidden, IsOrderOf, ShowsIn}
use Rattle.vme_samples.specs.Places.{has_place}
use Rattle.vme_samples.specs.Ways.{AreMakers, AreWays, Gathered}
use Rattle.vme_samples.proofs.Alone.{Alone, alone, single_order}
use Rattle.vme_samples.proofs.Following.{Splits, legal_before, split}
use Rattle.vme_samples.proofs.Walk.{order_gathered, order_named}
use Rattle.vme_probe.specs.declared.judging.Known.{Known}
use Rattle.vme_probe.specs.Knowing.{StopsSample, TakesSample}
use Rattle.vme_probe.specs.Lines.{change_line}
use Rattle.vme_probe.specs.Sampled.{all_places, placed_line, placed_lines}
use Rattle.vme_probe.specs.SampledNaming.{AreAllNamed, IsNeverShown, in_order, sample_lines}

some_same : {A : Type 0} (a b : A) → ◌≡◌ {A = Option A} (Some a) (Some b) → a ≡ b
some_same a b h = cc

none_some : {A : Type 0} (a : A) → ◌≡◌ {A = Option A} None (Some a) → ⊥
none_some a h = cc

true_false : ◌≡◌ {A = Bool} true false → ⊥
true_false h = cc

-- ---- the lines

placed_as : (o : Option SeenChange) (there : Bool) (d : Drivers) → there ≡ true → placed_line o there d ≡ option_map_or (λ s. change_line s.moment s.change d) o []
placed_as None there d e = refl
placed_as (Some s) there d e = ap (λ b. placed_line (Some s) b d) e

lines_as : (sample : List SeenChange) (makers : Makers) (n : ℕ) → n ≤ length sample → placed_lines sample (all_places sample) makers n ≡ sample_lines sample (by_at makers) n
lines_as sample makers zero l = refl
lines_as sample makers (suc n) l =
    ap (λ xs. xs ++ placed_line (slice_get sample n) (has_place (all_places sample) n) (by_at makers n)) (lines_as sample makers n (omega (arith, l)))
    ∙ ap (λ xs. sample_lines sample (by_at makers) n ++ xs)
    (placed_as (slice_get sample n) (has_place (all_places sample) n) (by_at makers n) (ap (λ b. b == 1) (bit_at_ones (length sample) n (omega (arith, l)))))

module _ (p : Plan) (ok : IsAccepted p) (v : Version) (said : List Entry) where
  -- what is known covers every bus that shows the samples
  abbrev pub CoversOrders : Probed → List (List SeenChange) → Standings → Type 0
  CoversOrders probed judged st =
      (cs : List Change) (g h : List Edge) → AreOrdersOf judged cs → Explains p (in_order v said cs) g h
      → CoversHidden p (pins said) probed (h ++ g) st

  pub begins_as : (xs ys : List Change) (g : List Edge) → CaptureBegins p (in_order v said xs) g → CaptureBegins p (in_order v said ys) g
  begins_as xs ys g b = record { power_up = b.power_up; legal = b.legal; levels = b.levels }

  module _ (probed : Probed) (version : v ≡ probed.version) (probes : AreProbed p (pins said) probed.segments) (judged : List (List SeenChange)) (old : Standings)
      (covered : CoversOrders probed judged old) where
    -- the edges of a sample, and those before it
    module _ (here before : List Change) (g h : List Edge) (orders : AreOrdersOf judged before) (x : Explains p (in_order v said (here ++ before)) g h) where
      s : Splits p (pins said) g h here before
      s = split p (pins said) g h here before x.shows

      same : h ++ g ≡ s.later ++ (s.earlier ++ g)
      same = ap (λ (l : List Edge). l ++ g) s.are ∙ append_assoc s.later s.earlier g

      whole : IsLegal v p (s.later ++ (s.earlier ++ g))
      whole = subst (IsLegal v p) same x.legal

      legal : IsLegal probed.version p (s.later ++ (s.earlier ++ g))
      legal = subst (λ y. IsLegal y p (s.later ++ (s.earlier ++ g))) version whole

      so_far : CoversHidden p (pins said) probed (s.earlier ++ g) old
      so_far = covered before g s.earlier orders (record {
        begins = begins_as (here ++ before) before g x.begins;
        legal = legal_before v p s.later (s.earlier ++ g) whole;
        shows = s.before_agree;
      })

      back : (st : Standings) → CoversHidden p (pins said) probed (s.later ++ (s.earlier ++ g)) st → CoversHidden p (pins said) probed (h ++ g) st
      back st c = subst (λ l. CoversHidden p (pins said) probed l st) (sym same) c

      -- ---- several changes

      module _ (sample : List SeenChange) (places : List ℕ) (order : IsOrderOf sample places here) (some : 0 < length sample) (known : List (Option Standings))
          (ways : AreWays p probed old sample known) where
        abbrev shows : ShowsIn probed.version p (pins said) (s.earlier ++ g) s.later sample
        shows = record { places = places; changes = here; order = order; legal = legal; agree = s.here_agree }

        several_covers : (new : Standings) → Gathered p probed sample known (all_places sample) (length sample) (Some new) → CoversHidden p (pins said) probed (h ++ g) new
        several_covers new gathered =
            let y = order_gathered p ok (pins said) probed sample old known ways probes (s.earlier ++ g) so_far s.later shows some (Some new) gathered in
            back new (subst (CoversHidden p (pins said) probed (s.later ++ (s.earlier ++ g))) (sym (some_same new y.0 y.1)) y.2)

        several_never : Gathered p probed sample known (all_places sample) (length sample) None → ⊥
        several_never gathered =
            let y = order_gathered p ok (pins said) probed sample old known ways probes (s.earlier ++ g) so_far s.later shows some None gathered in
            none_some y.0 y.1

        several_named : (by : ℕ → Drivers) → AreMakers p probed sample known (all_places sample) by → AreNamed by places (take (length here) (sightings p (pins said) g h))
        several_named by makers =
            subst (AreNamed by places) (sym s.first)
            (order_named p ok (pins said) probed sample old known ways probes (s.earlier ++ g) so_far s.later shows by makers)

      -- ---- one change

      module _ (c : Change) (is : here ≡ c ∷ []) (hidden : Standings) (moved : HasMoved p probed old hidden) where
        one : Alone p ok (pins said) probed probes (s.earlier ++ g) old so_far hidden moved c (s.later ++ (s.earlier ++ g)) (sightings p (pins said) (s.earlier ++ g) s.later)
        one = alone p ok (pins said) probed probes (s.earlier ++ g) old so_far hidden moved c s.later legal
            (subst (λ ks. AgreeEach ks (sightings p (pins said) (s.earlier ++ g) s.later)) is s.here_agree)

        one_covers : (new : Standings) → IsBehind p probed hidden c new → CoversHidden p (pins said) probed (h ++ g) new
        one_covers new behind = back new (one.over new behind)

        one_named : (d : Drivers) → AreDrivers p probed hidden c d → (is_nobody d ≡ false) × AreNamed (λ i. d) (0 ∷ []) (take (length here) (sightings p (pins said) g h))
        one_named d drivers =
            let y = one.named d drivers in
            (y.0, subst (AreNamed (λ i. d) (0 ∷ [])) (sym s.first) y.1)

    -- ---- a sample

    -- what is known behind it, and its lines
    pub record Taken (sample : List SeenChange) (new : Known) (text : List ℕ) : Type 0 where
      pub covers : CoversOrders probed (sample ∷ judged) new.standings
      pub by : ℕ → Drivers
      pub named : AreAllNamed p v said sample judged by
      pub is : text ≡ sample_lines sample by (length sample)
      pub probed_is : new.probed ≡ probed

    module _ (k : Known) (k_probed : k.probed ≡ probed) (k_standings : k.standings ≡ old) where
      pub taken : (sample : List SeenChange) → 0 < length sample → (new : Known) (text : List ℕ) → TakesSample p k sample new text → Taken sample new text
      taken [] some new text t = absurd (omega (arith, some))
      taken (a ∷ []) some new text (d, f, is) =
          let moved = subst (λ x. HasMoved p probed x f.hidden) k_standings (subst (λ x. HasMoved p x k.standings f.hidden) k_probed f.moved) in
          let behind = subst (λ x. IsBehind p x f.hidden a.change new.standings) k_probed f.behind in
          let drivers = subst (λ x. AreDrivers p x f.hidden a.change d) k_probed f.drivers in
          record {
            covers = λ cs g h (places, here, before, order, orders, are) x.
                one_covers here before g h orders (subst (λ ks. Explains p (in_order v said ks) g h) are x) a.change (single_order a places here order).1 f.hidden moved new.standings behind;
            by = λ i. d;
            named = λ places here before g h order orders x.
                let o = single_order a places here order in
                subst (λ (l : List ℕ). AreNamed (λ i. d) l (take (length here) (sightings p (pins said) g h))) (sym o.0)
                (one_named here before g h orders x a.change o.1 f.hidden moved d drivers).1;
            is = is;
            probed_is = f.probed ∙ k_probed;
          }
      taken (a ∷ b ∷ others) some new text t =
          let ways = subst (λ x. AreWays p probed x (a ∷ b ∷ others) t.ways) k_standings (subst (λ x. AreWays p x k.standings (a ∷ b ∷ others) t.ways) k_probed t.are_ways) in
          let gathered = subst (λ x. Gathered p x (a ∷ b ∷ others) t.ways (all_places (a ∷ b ∷ others)) (length (a ∷ b ∷ others)) (Some new.standings)) k_probed t.behind in
          let makers = subst (λ x. AreMakers p x (a ∷ b ∷ others) t.ways (all_places (a ∷ b ∷ others)) (by_at t.makers)) k_probed t.are_makers in
          record {
            covers = λ cs g h (places, here, before, order, orders, are) x.
                several_covers here before g h orders (subst (λ ks. Explains p (in_order v said ks) g h) are x) (a ∷ b ∷ others) places order some t.ways ways new.standings gathered;
            by = by_at t.makers;
            named = λ places here before g h order orders x. several_named here before g h orders x (a ∷ b ∷ others) places order some t.ways ways (by_at t.makers) makers;
            is = t.is ∙ lines_as (a ∷ b ∷ others) t.makers (length (a ∷ b ∷ others)) (omega arith);
            probed_is = t.probed ∙ k_probed;
          }

      -- a sample that cannot have been made is never shown
      pub stopped : (sample : List SeenChange) (text : List ℕ) → StopsSample p k sample text → IsNeverShown p v said (sample ∷ judged)
      stopped [] text h cs orders may = h
      stopped (a ∷ []) text h cs (places, here, before, order, orders, are) may =
          let moved = subst (λ x. HasMoved p probed x h.hidden) k_standings (subst (λ x. HasMoved p x k.standings h.hidden) k_probed h.moved) in
          let drivers = subst (λ x. AreDrivers p x h.hidden a.change h.makers) k_probed h.makers_are in
          true_false (sym h.nobody ∙ (one_named here before may.before may.edges orders (subst (λ ks. Explains p (in_order v said ks) may.before may.edges) are may.explains)
          a.change (single_order a places here order).1 h.hidden moved h.makers drivers).0)
      stopped (a ∷ b ∷ others) text h cs (places, here, before, order, orders, are) may =
          let ways = subst (λ x. AreWays p probed x (a ∷ b ∷ others) h.ways) k_standings (subst (λ x. AreWays p x k.standings (a ∷ b ∷ others) h.ways) k_probed h.are_ways) in
          let none = subst (λ x. Gathered p x (a ∷ b ∷ others) h.ways (all_places (a ∷ b ∷ others)) (length (a ∷ b ∷ others)) None) k_probed h.none in
          several_never here before may.before may.edges orders (subst (λ ks. Explains p (in_order v said ks) may.before may.edges) are may.explains)
          (a ∷ b ∷ others) places order (omega arith) h.ways ways none
