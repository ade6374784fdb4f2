-- What `==` says of sets of places and of kinds.
use Rattle.std.proofs.Common.{◌≡◌, ℕ, Bool, true, false, eqb, eq-eqb, List, [], ◌∷◌, ◌&&◌, refl, sym, ◌∙◌, ap, subst, arith}
use Rattle.std.proofs.lemmas.Bool.Decides.{nat_tests}
use lib.Pointwise.{pointwise}
use Rattle.vme_bus.specs.declared.kinds.BusKind.{BusKind}
use Rattle.vme_bus.specs.declared.records.CycleRecord.{CycleRecord}
use Rattle.vme_bus.specs.declared.sets.SlotSet.{SlotSet}
use Rattle.vme_order_search.specs.declared.taken.Taken.{Taken}

true_false : false ≡ true → ⊥
true_false h = cc

-- all of these hold
abbrev conj : Bool → List Bool → Bool
conj b [] = b
conj b (c ∷ bs) = b && conj c bs

abbrev AllTrue : List Bool → Type 0
AllTrue [] = Unit {0}
AllTrue (b ∷ bs) = (b ≡ true) × AllTrue bs

split : (b : Bool) (bs : List Bool) → conj b bs ≡ true → (b ≡ true) × AllTrue bs
split b [] h = (h, tt)
split true (c ∷ bs) h = (refl, split c bs h)
split false (c ∷ bs) h = absurd (true_false h)

equal : (a b : ℕ) → eqb a b ≡ true → a ≡ b
equal a b h = grind (arith, nat_tests)

both : (a b : Bool) → (a && b) ≡ true → (a ≡ true) × (b ≡ true)
both true b h = (refl, h)
both false b h = absurd (true_false h)

equal_lists : (xs ys : List ℕ) → pointwise eqb xs ys ≡ true → xs ≡ ys
equal_lists [] [] h = refl
equal_lists [] (y ∷ ys) h = absurd (true_false h)
equal_lists (x ∷ xs) [] h = absurd (true_false h)
equal_lists (x ∷ xs) (y ∷ ys) h =
    let p = both (eqb x y) (pointwise eqb xs ys) h in
    (λ i. equal x y p.0 i ∷ equal_lists xs ys p.1 i)

equal_sets : (a b : SlotSet) → eqb a.bits b.bits ≡ true → a ≡ b
equal_sets a b h = let e = equal a.bits b.bits h in (λ i. record { bits = e i })

equal_cycles : (a b : CycleRecord) → (eqb a.kind b.kind && eqb a.number b.number) ≡ true → a ≡ b
equal_cycles a b h =
    let p = both (eqb a.kind b.kind) (eqb a.number b.number) h in
    let k = equal a.kind b.kind p.0 in
    let n = equal a.number b.number p.1 in
    (λ i. record { kind = k i; number = n i })

pub equal_kinds : (a b : BusKind)
    → true ≡ conj (eqb a.br.bits b.br.bits) (eqb a.bbsy.bits b.bbsy.bits ∷ eqb a.addr.bits b.addr.bits
    ∷ eqb a.address_strobe.bits b.address_strobe.bits ∷ eqb a.data_strobe.bits b.data_strobe.bits
    ∷ eqb a.irq.bits b.irq.bits ∷ eqb a.dtack.bits b.dtack.bits ∷ eqb a.grants.bits b.grants.bits
    ∷ eqb a.acknowledges.bits b.acknowledges.bits ∷ eqb a.granted.bits b.granted.bits
    ∷ eqb a.acknowledged.bits b.acknowledged.bits ∷ eqb a.served.bits b.served.bits
    ∷ eqb a.strobed.bits b.strobed.bits ∷ eqb a.controls.bits b.controls.bits
    ∷ pointwise eqb a.cycles b.cycles
    ∷ (eqb a.shown.kind b.shown.kind && eqb a.shown.number b.shown.number)
    ∷ eqb a.addressing b.addressing ∷ eqb a.last_level b.last_level ∷ [])
    → a ≡ b
equal_kinds a b h =
    let p = split (eqb a.br.bits b.br.bits) (eqb a.bbsy.bits b.bbsy.bits ∷ eqb a.addr.bits b.addr.bits
    ∷ eqb a.address_strobe.bits b.address_strobe.bits ∷ eqb a.data_strobe.bits b.data_strobe.bits
    ∷ eqb a.irq.bits b.irq.bits ∷ eqb a.dtack.bits b.dtack.bits ∷ eqb a.grants.bits b.grants.bits
    ∷ eqb a.acknowledges.bits b.acknowledges.bits ∷ eqb a.granted.bits b.granted.bits
    ∷ eqb a.acknowledged.bits b.acknowledged.bits ∷ eqb a.served.bits b.served.bits
    ∷ eqb a.strobed.bits b.strobed.bits ∷ eqb a.controls.bits b.controls.bits
    ∷ pointwise eqb a.cycles b.cycles
    ∷ (eqb a.shown.kind b.shown.kind && eqb a.shown.number b.shown.number)
    ∷ eqb a.addressing b.addressing ∷ eqb a.last_level b.last_level ∷ []) (sym h) in
    let q = p.1 in
    let r = q.1.1.1.1 in
    let s = r.1.1.1.1 in
    let t = s.1.1.1.1 in
    let u = t.1.1.1.1 in
    let br = equal_sets a.br b.br p.0 in
    let bbsy = equal_sets a.bbsy b.bbsy q.0 in
    let addr = equal_sets a.addr b.addr q.1.0 in
    let address_strobe = equal_sets a.address_strobe b.address_strobe q.1.1.0 in
    let data_strobe = equal_sets a.data_strobe b.data_strobe q.1.1.1.0 in
    let irq = equal_sets a.irq b.irq r.0 in
    let dtack = equal_sets a.dtack b.dtack r.1.0 in
    let grants = equal_sets a.grants b.grants r.1.1.0 in
    let acknowledges = equal_sets a.acknowledges b.acknowledges r.1.1.1.0 in
    let granted = equal_sets a.granted b.granted s.0 in
    let acknowledged = equal_sets a.acknowledged b.acknowledged s.1.0 in
    let served = equal_sets a.served b.served s.1.1.0 in
    let strobed = equal_sets a.strobed b.strobed s.1.1.1.0 in
    let controls = equal_sets a.controls b.controls t.0 in
    let cycles = equal_lists a.cycles b.cycles t.1.0 in
    let shown = equal_cycles a.shown b.shown t.1.1.0 in
    let addressing = equal a.addressing b.addressing t.1.1.1.0 in
    let last_level = equal a.last_level b.last_level u.0 in
    (λ i. record {
      br = br i;
      bbsy = bbsy i;
      addr = addr i;
      address_strobe = address_strobe i;
      data_strobe = data_strobe i;
      irq = irq i;
      dtack = dtack i;
      grants = grants i;
      acknowledges = acknowledges i;
      granted = granted i;
      acknowledged = acknowledged i;
      served = served i;
      strobed = strobed i;
      controls = controls i;
      cycles = cycles i;
      shown = shown i;
      addressing = addressing i;
      last_level = last_level i;
    })

pub equal_taken : (t u : Taken) → true ≡ (eqb t.least u.least && eqb t.behind u.behind) → t ≡ u
equal_taken t u h =
    let p = both (eqb t.least u.least) (eqb t.behind u.behind) (sym h) in
    let l = equal t.least u.least p.0 in
    let b = equal t.behind u.behind p.1 in
    (λ i. record { least = l i; behind = b i })

pub is_taken : (t u : Taken) → t ≡ u → (eqb t.least u.least && eqb t.behind u.behind) ≡ true
is_taken t u h =
    subst (λ (x : Taken). (eqb t.least x.least && eqb t.behind x.behind) ≡ true) h
    (ap (λ b. b && eqb t.behind t.behind) (eq-eqb t.least t.least refl) ∙ eq-eqb t.behind t.behind refl)
