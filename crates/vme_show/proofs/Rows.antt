-- The marks of a row, one after another, and what they are of the edges of a stretch.
use Rattle.std.proofs.Common.{◌≡◌, ◌∙◌, ℕ, Bool, true, false, List, [], ◌∷◌, map, Option, Some, None, Result, Ok, Err, is_ok, refl, sym, ap}
use Rattle.std.specs.Prelude.{◌&&◌, if◌then◌else◌}
use Rattle.vme_model.specs.declared.deliveries.Delivery.{Delivery}
use Rattle.vme_model.specs.declared.refusals.Refused.{Refused}
use Rattle.vme_model.specs.declared.signals.Driver.{Driver}
use Rattle.vme_model.specs.declared.signals.Wire.{Wire}
use Rattle.vme_model.specs.declared.signals.Edge.{Edge}
use Rattle.vme_model.specs.Signals.{is_edge_of}
use Rattle.vme_model.specs.History.{drive}
use Rattle.vme_model.specs.Verdict.{State, Judgement, verdict, made, after}
use Rattle.vme_model.specs.Deliveries.{answer, delivery, with_delivery}
use Rattle.vme_show.specs.declared.columns.Column.{Column}
use Rattle.vme_show.specs.declared.columns.Topic.{Topic}
use Rattle.vme_show.specs.declared.columns.Topic.TheVariants as topic
use Rattle.vme_show.specs.Picture.{columns, mark, edge_mark, state_mark, grant_mark, holder_mark, shown_mark, verdict_mark, answer_mark}
use Rattle.vme_show.specs.Picture as picture
use Rattle.vme_show.specs.Columns.{cell, column_of, is_accepted, low_after, verdict_cell, verdict_of, wire_cell, wire_cells}

-- ---- what a column keeps

accepted_by : (j : Judgement) (v : Option Delivery) → is_accepted (verdict_of (with_delivery j v)) ≡ is_ok j
accepted_by (Ok u) None = refl
accepted_by (Ok u) (Some v) = refl
accepted_by (Err r) v = refl

pub is_accepted_of : (b : State) (e : Edge) → is_accepted (verdict_of (answer b e)) ≡ is_ok (verdict b e)
is_accepted_of b e = accepted_by (verdict b e) (delivery b.plan b.history e)

answer_cell : (a : Result (Option Delivery) Refused) → verdict_cell (verdict_of a) ≡ answer_mark a
answer_cell (Ok None) = refl
answer_cell (Ok (Some v)) = refl
answer_cell (Err r) = refl

-- what a row shows of a column
abbrev pub topic_mark : Topic → picture.Column → ℕ
topic_mark topic.GrantAt c = grant_mark c
topic_mark topic.Holder c = holder_mark c
topic_mark topic.Shown c = shown_mark c
topic_mark topic.Verdict c = verdict_mark c

cell_of : (t : Topic) (c : picture.Column) → cell t (column_of c) ≡ topic_mark t c
cell_of topic.GrantAt (b, e) = refl
cell_of topic.Holder (b, e) = refl
cell_of topic.Shown (b, e) = refl
cell_of topic.Verdict (b, e) = answer_cell (answer b e)

pub topic_cells : (t : Topic) (cs : List picture.Column) → map (cell t) (map column_of cs) ≡ map (topic_mark t) cs
topic_cells t [] = refl
topic_cells t (c ∷ cs) = ap (λ x. x ∷ map (cell t) (map column_of cs)) (cell_of t c) ∙ ap (λ l. topic_mark t c ∷ l) (topic_cells t cs)

-- ---- a wire's marks

module _ (d : Driver) (w : Wire) where
  moved : (b : State) (e : Edge) (ok : Bool) (is : Bool) → is_edge_of d w e ≡ is → drive (if ok then made b e else b).history d w ≡ (if is && ok then e.fall else drive b.history d w)
  moved b e false false h = refl
  moved b e false true h = refl
  moved b e true false h = ap (λ (x : Bool). if x then e.fall else drive b.history d w) h
  moved b e true true h = ap (λ (x : Bool). if x then e.fall else drive b.history d w) h

  drive_after : (b : State) (e : Edge) → low_after (drive b.history d w) d w (column_of (b, e)) ≡ drive (after b e).history d w
  drive_after b e =
      ap (λ (x : Bool). if is_edge_of d w e && x then e.fall else drive b.history d w) (is_accepted_of b e)
      ∙ sym (moved b e (is_ok (verdict b e)) (is_edge_of d w e) refl)

  mark_is : (b : State) (e : Edge) → wire_cell (drive b.history d w) d w (column_of (b, e)) ≡ mark d w (b, e)
  mark_is b e = ap (λ (x : Bool). if is_edge_of d w e then edge_mark x e.fall else state_mark (drive b.history d w)) (is_accepted_of b e)

  pub marks_are : (b : State) (es : List Edge) → wire_cells (drive b.history d w) d w (map column_of (columns b es)) ≡ map (mark d w) (columns b es)
  marks_are b [] = refl
  marks_are b (e ∷ es) =
      ap (λ x. x ∷ wire_cells (low_after (drive b.history d w) d w (column_of (b, e))) d w (map column_of (columns (after b e) es))) (mark_is b e)
      ∙ ap (λ (low : Bool). mark d w (b, e) ∷ wire_cells low d w (map column_of (columns (after b e) es))) (drive_after b e)
      ∙ ap (λ l. mark d w (b, e) ∷ l) (marks_are (after b e) es)
