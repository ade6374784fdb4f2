-- Bytes that change no place of a text.
use Rattle.std.proofs.Common.{◌≡◌, ◌≢◌, ◌==◌, ◌||◌, ◌∙◌, ℕ, Bool, true, false, not, ne_eqb, refl, sym, ap}
use Rattle.vme_scenario.specs.Borrowed.{is_filler}
use Rattle.vme_scenario.specs.Depth.{Place, behind}
use Rattle.vme_scenario.specs.declared.depth.Mode.TheVariants.{Comment, Plain}

neither : (a b : Bool) → not (a || b) ≡ true → (not a ≡ true) × (b ≡ false)
neither false false e = (refl, refl)
neither false true e = cc
neither true b e = cc

is_false : (b : Bool) → not b ≡ true → b ≡ false
is_false false e = refl
is_false true e = cc

filler_keeps : (p : Place) (c : ℕ) → is_filler c ≡ true → behind (record p { mode = Plain }) c ≡ record p { mode = Plain }
filler_keeps p c filler =
    let feed = neither (c == 34 || c == 39 || c == 35 || c == 46 || c == 61 || c == 91 || c == 123 || c == 93 || c == 125 || c == 44) (c == 10) filler in
    let comma = neither (c == 34 || c == 39 || c == 35 || c == 46 || c == 61 || c == 91 || c == 123 || c == 93 || c == 125) (c == 44) feed.0 in
    let close_brace = neither (c == 34 || c == 39 || c == 35 || c == 46 || c == 61 || c == 91 || c == 123 || c == 93) (c == 125) comma.0 in
    let close_bracket = neither (c == 34 || c == 39 || c == 35 || c == 46 || c == 61 || c == 91 || c == 123) (c == 93) close_brace.0 in
    let brace = neither (c == 34 || c == 39 || c == 35 || c == 46 || c == 61 || c == 91) (c == 123) close_bracket.0 in
    let bracket = neither (c == 34 || c == 39 || c == 35 || c == 46 || c == 61) (c == 91) brace.0 in
    let equals = neither (c == 34 || c == 39 || c == 35 || c == 46) (c == 61) bracket.0 in
    let dot = neither (c == 34 || c == 39 || c == 35) (c == 46) equals.0 in
    let hash = neither (c == 34 || c == 39) (c == 35) dot.0 in
    let apostrophe = neither (c == 34) (c == 39) hash.0 in
    let quote = is_false (c == 34) apostrophe.0 in
    rw (quote, apostrophe.1, hash.1, dot.1, equals.1, bracket.1, brace.1, close_bracket.1, close_brace.1, comma.1, feed.1) refl

pub filler_stays : (p : Place) (c : ℕ) → p.mode ≡ Plain → is_filler c ≡ true → behind p c ≡ p
filler_stays p c plain filler =
    let same : ◌≡◌ {A = Place} (record p { mode = Plain }) p = ap (λ m. record p { mode = m }) (sym plain) in
    ap (λ q. behind q c) (sym same) ∙ filler_keeps p c filler ∙ same

pub comment_stays : (p : Place) (c : ℕ) → p.mode ≡ Comment → c ≢ 10 → behind p c ≡ p
comment_stays p c comment other =
    let same : ◌≡◌ {A = Place} (record p { mode = Comment }) p = ap (λ m. record p { mode = m }) (sym comment) in
    let kept : behind (record p { mode = Comment }) c ≡ record p { mode = Comment } = rw (ne_eqb c 10 other) refl in
    ap (λ q. behind q c) (sym same) ∙ kept ∙ same
