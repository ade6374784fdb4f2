-- Lines at the head of some bytes, one after another.
use Rattle.std.proofs.Common.{◌≡◌, ◌<◌, ◌≤◌, ◌+◌, ℕ, List, [], ◌∷◌, ◌++◌, length, get_or, take, drop, IsTrue, arith, sym, ◌∙◌, ap, append_assoc, append-nil, add-one, subst}
use Rattle.std.proofs.Math.Seq.{take-suc, take-append_seam, drop-append_seam}
use Rattle.std.proofs.lemmas.Grind.{flat_map-append}
use Rattle.std.proofs.lemmas.List.{take-append-drop, drop-drop, get_or-drop, length-append, length-drop}
use Rattle.std.proofs.lemmas.List.Elements.{All-push, All-append}
use Rattle.vme_model.specs.declared.signals.Edge.{Edge}
use Rattle.vme_model.specs.Signals.{is_well_formed}
use Rattle.vme_model.specs.Text.{spelling, edge_lines}
use Rattle.vme_trace.specs.Fronts.{IsFrontLine}
use Rattle.vme_trace.specs.Known.{number_of, IsKeyOf}
use Rattle.vme_trace.specs.Taking.{HasLines}
use Rattle.vme_trace.proofs.KeyNumbers.{AreBytes, are_bytes, bytes_at, AreBytes-take, AreBytes-drop, AreBytes-front, some_number, same_line}

abbrev pub IsFormed : Edge → Type 0
IsFormed e = IsTrue (is_well_formed e)

-- one more line
pub more_lines : (bytes rest behind : List ℕ) (e : Edge) (old es new : List Edge) → HasLines bytes rest old es → IsFrontLine e rest behind → new ≡ es ++ e ∷ []
    → HasLines bytes behind old new
more_lines bytes rest behind e old es new h front is = record {
  es = h.es ++ e ∷ [];
  formed = All-push IsFormed h.es e h.formed front.formed;
  is =
      h.is ∙ ap (λ l. edge_lines h.es ++ l) front.is ∙ sym (append_assoc (edge_lines h.es) (spelling e ++ 10 ∷ []) behind)
      ∙ ap (λ l. (edge_lines h.es ++ l) ++ behind) (sym (append-nil (spelling e ++ 10 ∷ [])))
      ∙ ap (λ l. l ++ behind) (sym (flat_map-append (λ d. spelling d ++ 10 ∷ []) h.es (e ∷ [])));
  appended = is ∙ ap (λ l. l ++ e ∷ []) h.appended ∙ append_assoc old h.es (e ∷ []);
}

-- lines, and then others
pub join_lines : (bytes rest rest' : List ℕ) (old mid new : List Edge) → HasLines bytes rest old mid → HasLines rest rest' mid new → HasLines bytes rest' old new
join_lines bytes rest rest' old mid new h k = record {
  es = h.es ++ k.es;
  formed = All-append IsFormed h.es k.es h.formed k.formed;
  is =
      h.is ∙ ap (λ l. edge_lines h.es ++ l) k.is ∙ sym (append_assoc (edge_lines h.es) (edge_lines k.es) rest')
      ∙ ap (λ l. l ++ rest') (sym (flat_map-append (λ d. spelling d ++ 10 ∷ []) h.es k.es));
  appended = k.appended ∙ ap (λ l. l ++ k.es) h.appended ∙ append_assoc old h.es k.es;
}

few_edges : (es : List Edge) → length es ≤ length (edge_lines es)
few_edges [] = omega arith
few_edges (e ∷ es) =
    let others = few_edges es in
    let all = length-append (spelling e ++ 10 ∷ []) (edge_lines es) in
    let own = length-append (spelling e) (10 ∷ []) in
    omega (arith, others, all, own)

-- no more edges than bytes
pub few_lines : (bytes rest : List ℕ) (old new : List Edge) → HasLines bytes rest old new → length new + length rest ≤ length old + length bytes
few_lines bytes rest old new h =
    let few = few_edges h.es in
    let all = ap length h.is ∙ length-append (edge_lines h.es) rest in
    let more = ap length h.appended ∙ length-append old h.es in
    omega (arith, few, all, more)

-- a line has a byte at least
pub some_line : (text : List ℕ) (start end : ℕ) (e : Edge) → IsFrontLine e (drop start text) (drop end text) → end ≤ length text → start < end
some_line text start end e front within =
    let all = ap length front.is ∙ length-append (spelling e ++ 10 ∷ []) (drop end text) in
    let own = length-append (spelling e) (10 ∷ []) in
    let from = length-drop start text in
    let to = length-drop end text in
    omega (arith, all, own, from, to)

-- ---- a line that is remembered

module _ (text : List ℕ) (start line : ℕ) where
  abbrev here : List ℕ
  here = drop start text

  behind : drop (line + 1) here ≡ drop (start + line + 1) text
  behind = drop-drop (line + 1) start text ∙ ap (λ n. drop n text) (let e : start + (line + 1) ≡ start + line + 1 = omega arith in e)

  module _ (e : Edge) (rest : List ℕ) (front : IsFrontLine e here rest) (long : length rest + line + 1 ≡ length here) where
    length_is : length (spelling e ++ 10 ∷ []) ≡ line + 1
    length_is = let all = ap length front.is ∙ length-append (spelling e ++ 10 ∷ []) rest in omega (arith, all)

    first : take (line + 1) here ≡ spelling e ++ 10 ∷ []
    first = ap (take (line + 1)) front.is ∙ ap (λ n. take n ((spelling e ++ 10 ∷ []) ++ rest)) (sym length_is) ∙ take-append_seam (spelling e ++ 10 ∷ []) rest

    others : drop (line + 1) here ≡ rest
    others = ap (drop (line + 1)) front.is ∙ ap (λ n. drop n ((spelling e ++ 10 ∷ []) ++ rest)) (sym length_is) ∙ drop-append_seam (spelling e ++ 10 ∷ []) rest

    pub kept_key : (key : ℕ) → ((k : ℕ) → get_or text k 0 < 256) → key ≡ number_of (take (line + 1) here) → IsKeyOf e key
    kept_key key small is =
        let all : AreBytes ((spelling e ++ 10 ∷ []) ++ rest) = let P : List ℕ → Type 0 = AreBytes in subst P front.is (AreBytes-drop start text (are_bytes text small)) in
        let own : AreBytes (spelling e) = AreBytes-front (spelling e) (10 ∷ []) (AreBytes-front (spelling e ++ 10 ∷ []) rest all) in
        record { formed = front.formed; bytes = bytes_at (spelling e) own; is = is ∙ ap number_of first }

    pub kept_line : IsFrontLine e here (drop (start + line + 1) text)
    kept_line = let P : List ℕ → Type 0 = λ l. IsFrontLine e here l in subst P (sym others ∙ behind) front

  -- ---- a line that was remembered

  module _ (key : ℕ) (small : (k : ℕ) → get_or text k 0 < 256) (key_is : key ≡ number_of (take (line + 1) here)) (within : start + line < length text)
      (feed : get_or text (start + line) 0 ≡ 10) where
    line_is : take (line + 1) here ≡ take line here ++ 10 ∷ []
    line_is =
        let less : line < length here = simp length-drop (omega arith) in
        ap (λ n. take n here) (add-one line) ∙ take-suc here line 0 less ∙ ap (λ b. take line here ++ b ∷ []) (get_or-drop start text line 0 ∙ feed)

    pub some_key : key ≡ 0 → ⊥
    some_key none = let some = some_number (take line here) in let all = sym none ∙ key_is ∙ ap number_of line_is in omega (arith, some, all)

    pub known_line : (e : Edge) → IsKeyOf e key → IsFrontLine e here (drop (start + line + 1) text)
    known_line e h =
        let same : spelling e ≡ take line here =
        same_line (spelling e) (take line here) (are_bytes (spelling e) h.bytes) (AreBytes-take line here (AreBytes-drop start text (are_bytes text small)))
        (sym h.is ∙ key_is ∙ ap number_of line_is) in
        let head : take (line + 1) here ≡ spelling e ++ 10 ∷ [] = line_is ∙ ap (λ l. l ++ 10 ∷ []) (sym same) in
        record {
          formed = h.formed;
          is = sym (take-append-drop (line + 1) here) ∙ ap (λ l. l ++ drop (line + 1) here) head ∙ ap (λ l. (spelling e ++ 10 ∷ []) ++ l) behind;
        }
