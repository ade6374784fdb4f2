-- Texts that are written one after another, and the whole picture.
use Rattle.std.proofs.Common.{◌≡◌, ◌∙◌, ℕ, ◌+◌, ◌<◌, Bool, true, false, List, [], ◌∷◌, ◌++◌, length, take, drop, map, get_or, Option, refl, sym, ap, subst, arith, append_assoc, append-nil, take-append-drop}
use Rattle.std.specs.Prelude.{◌||◌, if◌then◌else◌, filter}
use Rattle.std.specs.List.{flat_map, list_any, All}
use Rattle.std.specs.Io.KnownBytes.{Appends}
use Rattle.std.proofs.KnownBytes.{Appends-trans}
use Rattle.std.proofs.lemmas.List.{drop_more, take_more, length-map, map-append}
use Rattle.std.proofs.lemmas.List.Concat.{flat_map-append}
use Rattle.std.proofs.lemmas.List.Elements.{All-nil, All-cons, All-append, All-filter, All-map}
use Rattle.vme_model.specs.declared.signals.Driver.{Driver}
use Rattle.vme_model.specs.declared.signals.Driver.TheVariants.{Controller, Slot}
use Rattle.vme_model.specs.declared.signals.Wire.{Wire}
use Rattle.vme_model.specs.declared.signals.Wire.TheVariants.{Bg, Bclr, Iack, Berr, Br, BgOut, Bbsy, Addr, AddressStrobe, DataStrobe, Irq, IackOut, Dtack}
use Rattle.vme_model.specs.declared.signals.Edge.{Edge}
use Rattle.vme_model.specs.Signals.{is_edge_of}
use Rattle.vme_model.specs.Plan.{has_driver, drivers}
use Rattle.vme_model.specs.History.{drive}
use Rattle.vme_model.specs.Offers.{wires}
use Rattle.vme_model.specs.Text.{HasWord}
use Rattle.vme_model.specs.Verdict.{State}
use Rattle.vme_trace.specs.Writing.{AppendsFront}
use Rattle.vme_explain.proofs.Written.{front_behind, front_of_more}
use Rattle.vme_show.specs.declared.columns.Column.{Column}
use Rattle.vme_show.specs.declared.columns.Topic.{Topic}
use Rattle.vme_show.specs.declared.wires.PlanWire.{PlanWire}
use Rattle.vme_show.specs.Picture.{columns, drawn, is_drawn, picture, plan_wires, row, rows, wire_name, wire_row, title, tens_line, numbers_line, ones}
use Rattle.vme_show.specs.Picture as picture
use Rattle.vme_show.specs.Columns.{HasWords, IsWindowOf, Seen, column_of, head_text, is_moved, plan_wires_in, topic_line, topic_name, topics, topics_text, wire_line, wires_of, wires_text}
use Rattle.vme_show.proofs.Rows.{marks_are, topic_cells, topic_mark}

-- ---- texts, one of each item

module _ {X : Type 0} (text : X → List ℕ) where
  text_more : (xs : List X) (i : ℕ) (d : X) → i < length xs → flat_map text (take (i + 1) xs) ≡ flat_map text (take i xs) ++ text (get_or xs i d)
  text_more xs i d h = ap (flat_map text) (take_more xs i d h) ∙ flat_map-append text (take i xs) (get_or xs i d ∷ []) ∙ ap (λ l. flat_map text (take i xs) ++ l) (append-nil (text (get_or xs i d)))

  texts_from : (xs : List X) (i : ℕ) (d : X) → i < length xs → flat_map text xs ≡ flat_map text (take i xs) ++ (text (get_or xs i d) ++ flat_map text (drop (i + 1) xs))
  texts_from xs i d h =
      ap (flat_map text) (sym (take-append-drop i xs) ∙ ap (λ l. take i xs ++ l) (drop_more xs i d h))
      ∙ flat_map-append text (take i xs) (get_or xs i d ∷ drop (i + 1) xs)

  -- the next one was written
  pub writes_more : (a b c : Option (List ℕ)) (xs : List X) (i : ℕ) (d : X) → i < length xs → Appends a b (flat_map text (take i xs)) → Appends b c (text (get_or xs i d))
      → Appends a c (flat_map text (take (i + 1) xs))
  writes_more a b c xs i d h before here = subst (Appends a c) (sym (text_more xs i d h)) (Appends-trans a b c (flat_map text (take i xs)) (text (get_or xs i d)) before here)

  -- a prefix of it
  pub writes_front : (a b c : Option (List ℕ)) (xs : List X) (i : ℕ) (d : X) → i < length xs → Appends a b (flat_map text (take i xs)) → AppendsFront b c (text (get_or xs i d))
      → AppendsFront a c (flat_map text xs)
  writes_front a b c xs i d h before here =
      subst (AppendsFront a c) (sym (texts_from xs i d h))
      (front_behind a b c (flat_map text (take i xs)) (text (get_or xs i d) ++ flat_map text (drop (i + 1) xs)) before
      (front_of_more b c (text (get_or xs i d)) (flat_map text (drop (i + 1) xs)) here))

  -- there was nothing to write
  pub writes_none : (a b : Option (List ℕ)) (xs : List X) (i : ℕ) (d : X) → i < length xs → Appends a b (flat_map text (take i xs)) → [] ≡ text (get_or xs i d)
      → Appends a b (flat_map text (take (i + 1) xs))
  writes_none a b xs i d h before none = subst (Appends a b) (sym (text_more xs i d h ∙ ap (λ l. flat_map text (take i xs) ++ l) (sym none) ∙ append-nil (flat_map text (take i xs)))) before

-- the text of what passes a test
abbrev pub passing : {X : Type 0} → (X → Bool) → (X → List ℕ) → X → List ℕ
passing test text x = if test x then text x else []

pub all_passing : {X : Type 0} (test : X → Bool) (text : X → List ℕ) (xs : List X) → flat_map (passing test text) xs ≡ flat_map text (filter test xs)
all_passing test text [] = refl
all_passing test text (x ∷ xs) = by_test (test x) (all_passing test text xs)
  where
    by_test : (t : Bool) → flat_map (passing test text) xs ≡ flat_map text (filter test xs) → (if t then text x else []) ++ flat_map (passing test text) xs
        ≡ flat_map text (if t then x ∷ filter test xs else filter test xs)
    by_test true rest = ap (λ l. text x ++ l) rest
    by_test false rest = rest

pub passes : {X : Type 0} (test : X → Bool) (text : X → List ℕ) (x : X) (line : List ℕ) → test x ≡ true → line ≡ text x → line ≡ passing test text x
passes test text x line is same = same ∙ ap (λ (t : Bool). if t then text x else []) (sym is)

pub fails : {X : Type 0} (test : X → Bool) (text : X → List ℕ) (x : X) → test x ≡ false → [] ≡ passing test text x
fails test text x is = ap (λ (t : Bool). if t then text x else []) (sym is)

-- ---- every wire of a plan has a word

words_of_driver : (d : Driver) → All (λ w. HasWord w) (wires d)
words_of_driver Controller =
    All-cons (λ w. HasWord w) (Bg 0) (Bg 1 ∷ Bg 2 ∷ Bg 3 ∷ Bclr ∷ Iack ∷ Berr ∷ []) (omega arith)
    (All-cons (λ w. HasWord w) (Bg 1) (Bg 2 ∷ Bg 3 ∷ Bclr ∷ Iack ∷ Berr ∷ []) (omega arith)
    (All-cons (λ w. HasWord w) (Bg 2) (Bg 3 ∷ Bclr ∷ Iack ∷ Berr ∷ []) (omega arith)
    (All-cons (λ w. HasWord w) (Bg 3) (Bclr ∷ Iack ∷ Berr ∷ []) (omega arith)
    (All-cons (λ w. HasWord w) Bclr (Iack ∷ Berr ∷ []) tt
    (All-cons (λ w. HasWord w) Iack (Berr ∷ []) tt
    (All-cons (λ w. HasWord w) Berr ([]) tt
    (All-nil (λ w. HasWord w))))))))
words_of_driver (Slot s) =
    All-cons (λ w. HasWord w) Br (BgOut ∷ Bbsy ∷ Addr ∷ AddressStrobe ∷ DataStrobe ∷ Irq ∷ IackOut ∷ Dtack ∷ []) tt
    (All-cons (λ w. HasWord w) BgOut (Bbsy ∷ Addr ∷ AddressStrobe ∷ DataStrobe ∷ Irq ∷ IackOut ∷ Dtack ∷ []) tt
    (All-cons (λ w. HasWord w) Bbsy (Addr ∷ AddressStrobe ∷ DataStrobe ∷ Irq ∷ IackOut ∷ Dtack ∷ []) tt
    (All-cons (λ w. HasWord w) Addr (AddressStrobe ∷ DataStrobe ∷ Irq ∷ IackOut ∷ Dtack ∷ []) tt
    (All-cons (λ w. HasWord w) AddressStrobe (DataStrobe ∷ Irq ∷ IackOut ∷ Dtack ∷ []) tt
    (All-cons (λ w. HasWord w) DataStrobe (Irq ∷ IackOut ∷ Dtack ∷ []) tt
    (All-cons (λ w. HasWord w) Irq (IackOut ∷ Dtack ∷ []) tt
    (All-cons (λ w. HasWord w) IackOut (Dtack ∷ []) tt
    (All-cons (λ w. HasWord w) Dtack ([]) tt
    (All-nil (λ w. HasWord w))))))))))

words_of_drivers : (b : State) (ds : List Driver) → HasWords (flat_map (wires_of b) ds)
words_of_drivers b [] = All-nil (λ w. HasWord w.wire)
words_of_drivers b (d ∷ ds) =
    All-append (λ w. HasWord w.wire) (wires_of b d) (flat_map (wires_of b) ds)
    (All-map (λ w. HasWord w.wire) (λ w. record { driver = d; wire = w; low = drive b.history d w }) (filter (has_driver b.plan d) (wires d))
    (All-filter (has_driver b.plan d) (λ w. HasWord w) (wires d) (words_of_driver d)))
    (words_of_drivers b ds)

pub has_words : (b : State) (first : ℕ) (es : List Edge) (w : Seen) → IsWindowOf b first es w → HasWords w.wires
has_words b first es w h = subst HasWords (sym h.wires_are) (words_of_drivers b (drivers b.plan))

-- ---- the picture

-- a wire as it was
abbrev before : State → Driver × Wire → PlanWire
before b (d, w) = record { driver = d; wire = w; low = drive b.history d w }

wires_before : (b : State) (d : Driver) (ws : List Wire) → map (λ w. record { driver = d; wire = w; low = drive b.history d w }) ws ≡ map (before b) (map (λ w. (d, w)) ws)
wires_before b d [] = refl
wires_before b d (w ∷ ws) = ap (λ l. record { driver = d; wire = w; low = drive b.history d w } ∷ l) (wires_before b d ws)

all_before : (b : State) (ds : List Driver) → flat_map (wires_of b) ds ≡ map (before b) (flat_map (λ d. map (λ w. (d, w)) (filter (has_driver b.plan d) (wires d))) ds)
all_before b [] = refl
all_before b (d ∷ ds) =
    ap (λ l. l ++ flat_map (wires_of b) ds) (wires_before b d (filter (has_driver b.plan d) (wires d)))
    ∙ ap (λ l. map (before b) (map (λ w. (d, w)) (filter (has_driver b.plan d) (wires d))) ++ l) (all_before b ds)
    ∙ sym (map-append (before b) (map (λ w. (d, w)) (filter (has_driver b.plan d) (wires d))) (flat_map (λ x. map (λ w. (x, w)) (filter (has_driver b.plan x) (wires x))) ds))

is_drawn_of : (d : Driver) (w : Wire) (cs : List picture.Column) → list_any (λ c. is_edge_of d w c.edge) (map column_of cs) ≡ list_any (λ c. is_edge_of d w c.1) cs
is_drawn_of d w [] = refl
is_drawn_of d w ((b, e) ∷ cs) = ap (λ (x : Bool). is_edge_of d w e || x) (is_drawn_of d w cs)

row_more : {X Y : Type 0} (f : X → List ℕ) (g : Y → List ℕ) (x : X) (y : Y) (xs : List X) (ys : List Y) (m t : Bool) → m ≡ t → f x ≡ g y → flat_map f xs ≡ flat_map g ys
    → flat_map f (if m then x ∷ xs else xs) ≡ flat_map g (if t then y ∷ ys else ys)
row_more f g x y xs ys true true h one rest = ap (λ l. l ++ flat_map f xs) one ∙ ap (λ l. g y ++ l) rest
row_more f g x y xs ys false false h one rest = rest
row_more f g x y xs ys true false h one rest = absurd (cc)
row_more f g x y xs ys false true h one rest = absurd (cc)

module _ (color : Bool) (b : State) (es : List Edge) where
  rows_are : (ws : List (Driver × Wire)) → flat_map (wire_line color (map column_of (columns b es))) (filter (is_moved (map column_of (columns b es))) (map (before b) ws))
      ≡ flat_map (wire_row color (columns b es)) (filter (is_drawn (columns b es)) ws)
  rows_are [] = refl
  rows_are ((d, w) ∷ ws) =
      row_more (wire_line color (map column_of (columns b es))) (wire_row color (columns b es)) (before b (d, w)) (d, w) (filter (is_moved (map column_of (columns b es))) (map (before b) ws))
      (filter (is_drawn (columns b es)) ws)
      (is_moved (map column_of (columns b es)) (before b (d, w))) (is_drawn (columns b es) (d, w)) (is_drawn_of d w (columns b es)) (ap (row color (wire_name d w)) (marks_are d w b es)) (rows_are ws)

  topic_row : (t : Topic) → topic_line color (map column_of (columns b es)) t ≡ row color (topic_name t) (map (topic_mark t) (columns b es))
  topic_row t = ap (row color (topic_name t)) (topic_cells t (columns b es))

four : (a p q r s : List ℕ) → a ++ (p ++ (q ++ (r ++ (s ++ [])))) ≡ (((a ++ p) ++ q) ++ r) ++ s
four a p q r s = simp (append_assoc, append-nil)

-- what a window draws, by what it keeps
abbrev text_by : Bool → ℕ → List PlanWire → List Column → List ℕ
text_by color first ws cs =
    ((title first (length cs) ++ tens_line first (length cs) ++ numbers_line ones first (length cs)) ++ flat_map (wire_line color cs) (filter (is_moved cs) ws))
    ++ flat_map (topic_line color cs) topics

abbrev head_by : ℕ → ℕ → List ℕ
head_by first n = title first n ++ tens_line first n ++ numbers_line ones first n

topics_are : (color : Bool) (b : State) (es : List Edge) → flat_map (topic_line color (map column_of (columns b es))) topics
    ≡ flat_map (λ t. row color (topic_name t) (map (topic_mark t) (columns b es))) topics
topics_are color b es = four_same (topic_line color (map column_of (columns b es))) (λ t. row color (topic_name t) (map (topic_mark t) (columns b es))) (topic_row color b es) topics
  where
    four_same : (f g : Topic → List ℕ) → ((t : Topic) → f t ≡ g t) → (ts : List Topic) → flat_map f ts ≡ flat_map g ts
    four_same f g h [] = refl
    four_same f g h (t ∷ ts) = ap (λ l. l ++ flat_map f ts) (h t) ∙ ap (λ l. g t ++ l) (four_same f g h ts)

drawn_is : (color : Bool) (first : ℕ) (b : State) (es : List Edge) → text_by color first (plan_wires_in b) (map column_of (columns b es)) ≡ drawn color first b.plan (columns b es)
drawn_is color first b es =
    let cs = columns b es in
    ap (λ n. (head_by first n ++ flat_map (wire_line color (map column_of cs)) (filter (is_moved (map column_of cs)) (plan_wires_in b))) ++ flat_map (topic_line color (map column_of cs)) topics)
    (length-map cs column_of)
    ∙ ap (λ l. (head_by first (length cs) ++ l) ++ flat_map (topic_line color (map column_of cs)) topics)
    (ap (λ l. flat_map (wire_line color (map column_of cs)) (filter (is_moved (map column_of cs)) l)) (all_before b (drivers b.plan)) ∙ rows_are color b es (plan_wires b.plan))
    ∙ ap (λ l. (head_by first (length cs) ++ flat_map (wire_row color cs) (rows b.plan cs)) ++ l) (topics_are color b es)
    ∙ four (head_by first (length cs) ++ flat_map (wire_row color cs) (rows b.plan cs)) _ _ _ _

some_edge : (color : Bool) (first : ℕ) (b : State) (es : List Edge) (n : ℕ) → n ≡ length (map column_of (columns b es)) → 0 < n → drawn color first b.plan (columns b es) ≡ picture color first b es
some_edge color first b [] n is some = absurd (omega arith)
some_edge color first b (e ∷ es) n is some = refl

pub picture_is : (color : Bool) (first : ℕ) (b : State) (es : List Edge) (w : Seen) → IsWindowOf b first es w → 0 < length w.columns → (head_text w ++ wires_text color w) ++ topics_text color w
    ≡ picture color first b es
picture_is color first b es w h some =
    ap (λ n. text_by color n w.wires w.columns) h.first_is
    ∙ ap (λ (ws : List PlanWire). text_by color first ws w.columns) h.wires_are
    ∙ ap (λ (cs : List Column). text_by color first (plan_wires_in b) cs) h.columns_are
    ∙ drawn_is color first b es
    ∙ some_edge color first b es (length w.columns) (ap length h.columns_are) some

-- what was written of it
module _ (color : Bool) (b : State) (es : List Edge) (w : Seen) (is : IsWindowOf b w.first es w) (some : 0 < length w.columns) where
  pub head_front : (x y : Option (List ℕ)) → AppendsFront x y (head_text w) → AppendsFront x y (picture color w.first b es)
  head_front x y f =
      subst (AppendsFront x y) (picture_is color w.first b es w is some)
      (front_of_more x y (head_text w ++ wires_text color w) (topics_text color w) (front_of_more x y (head_text w) (wires_text color w) f))

  pub wires_front : (x y z : Option (List ℕ)) → Appends x y (head_text w) → AppendsFront y z (wires_text color w) → AppendsFront x z (picture color w.first b es)
  wires_front x y z head f =
      subst (AppendsFront x z) (picture_is color w.first b es w is some)
      (front_of_more x z (head_text w ++ wires_text color w) (topics_text color w) (front_behind x y z (head_text w) (wires_text color w) head f))

  pub topics_front : (x y z u : Option (List ℕ)) → Appends x y (head_text w) → Appends y z (wires_text color w) → AppendsFront z u (topics_text color w) → AppendsFront x u (picture color w.first b es)
  topics_front x y z u head rows f =
      subst (AppendsFront x u) (picture_is color w.first b es w is some)
      (front_behind x z u (head_text w ++ wires_text color w) (topics_text color w) (Appends-trans x y z (head_text w) (wires_text color w) head rows) f)

  pub whole : (x y z u : Option (List ℕ)) → Appends x y (head_text w) → Appends y z (wires_text color w) → Appends z u (topics_text color w) → Appends x u (picture color w.first b es)
  whole x y z u head rows rest =
      subst (Appends x u) (picture_is color w.first b es w is some)
      (Appends-trans x z u (head_text w ++ wires_text color w) (topics_text color w) (Appends-trans x y z (head_text w) (wires_text color w) head rows) rest)
