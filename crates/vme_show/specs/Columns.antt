-- What a window keeps of a stretch of a trace, and what it draws by that.
use Rattle.std.specs.Prelude.{◌≡◌, ◌&&◌, ◌++◌, if◌then◌else◌, ℕ, Bool, true, false, Option, Some, None, Result, Ok, Err, List, [], ◌∷◌, length, map, filter, codes}
use Rattle.std.specs.List.{flat_map, list_any, All}
use Rattle.vme_model.specs.declared.deliveries.Delivery.{Delivery}
use Rattle.vme_model.specs.declared.refusals.Refused.{Refused}
use Rattle.vme_model.specs.declared.signals.Driver.{Driver}
use Rattle.vme_model.specs.declared.signals.Wire.{Wire}
use Rattle.vme_model.specs.declared.signals.Edge.{Edge}
use Rattle.vme_model.specs.Signals.{is_edge_of}
use Rattle.vme_model.specs.Plan.{has_driver, drivers}
use Rattle.vme_model.specs.History.{drive}
use Rattle.vme_model.specs.Verdict.{State}
use Rattle.vme_model.specs.Deliveries.{answer}
use Rattle.vme_model.specs.Offers.{wires}
use Rattle.vme_model.specs.Text.{HasWord}
use Rattle.vme_show.specs.declared.columns.Column.{Column}
use Rattle.vme_show.specs.declared.columns.Topic.{Topic}
use Rattle.vme_show.specs.declared.columns.Topic.TheVariants as topic
use Rattle.vme_show.specs.declared.columns.Verdict.{Verdict}
use Rattle.vme_show.specs.declared.columns.Verdict.TheVariants as verdict
use Rattle.vme_show.specs.declared.lines.Digit.{Digit}
use Rattle.vme_show.specs.declared.lines.Digit.TheVariants.{Tens, Ones}
use Rattle.vme_show.specs.declared.wires.PlanWire.{PlanWire}
use Rattle.vme_show.specs.Picture as picture
use Rattle.vme_show.specs.Picture.{columns, edge_mark, state_mark, grant_mark, holder_mark, shown_mark, tens, ones, numbers_line, tens_line, title, row, wire_name}

-- ---- a column

abbrev pub verdict_of : Result (Option Delivery) Refused → Verdict
verdict_of (Err refused) = verdict.Refused
verdict_of (Ok None) = verdict.Accepted
verdict_of (Ok (Some delivery)) = verdict.Delivered

abbrev pub is_accepted : Verdict → Bool
is_accepted verdict.Refused = false
is_accepted verdict.Accepted = true
is_accepted verdict.Delivered = true

-- what is kept of an edge
abbrev pub column_of : picture.Column → Column
column_of (b, e) = record {
  edge = e;
  verdict = verdict_of (answer b e);
  grant_at = grant_mark (b, e);
  holder = holder_mark (b, e);
  shown = shown_mark (b, e);
}

abbrev pub verdict_cell : Verdict → ℕ
verdict_cell verdict.Refused = 120
verdict_cell verdict.Accepted = 46
verdict_cell verdict.Delivered = 33

-- the mark of what a row shows
abbrev pub cell : Topic → Column → ℕ
cell topic.GrantAt c = c.grant_at
cell topic.Holder c = c.holder
cell topic.Shown c = c.shown
cell topic.Verdict c = verdict_cell c.verdict

-- the mark of a wire that was low before it or not, and whether it is low after it
abbrev pub wire_cell : Bool → Driver → Wire → Column → ℕ
wire_cell low d w c =
    if is_edge_of d w c.edge then edge_mark (is_accepted c.verdict) c.edge.fall else state_mark low

abbrev pub low_after : Bool → Driver → Wire → Column → Bool
low_after low d w c = if is_edge_of d w c.edge && is_accepted c.verdict then c.edge.fall else low

abbrev pub wire_cells : Bool → Driver → Wire → List Column → List ℕ
wire_cells low d w [] = []
wire_cells low d w (c ∷ cs) = wire_cell low d w c ∷ wire_cells (low_after low d w c) d w cs

-- ---- a window

-- the wires of a driver that a plan has, and which of them are low
abbrev pub wires_of : State → Driver → List PlanWire
wires_of b d =
    map (λ w. record { driver = d; wire = w; low = drive b.history d w })
    (filter (has_driver b.plan d) (wires d))

abbrev pub plan_wires_in : State → List PlanWire
plan_wires_in b = flat_map (wires_of b) (drivers b.plan)

abbrev pub HasWords : List PlanWire → Type 0
HasWords ws = All (λ w. HasWord w.wire) ws

-- what a window keeps
pub record Seen : Type 0 where
  pub first : ℕ
  pub wires : List PlanWire
  pub columns : List Column

abbrev pub with_column : Seen → Column → Seen
with_column w c = record w { columns = w.columns ++ c ∷ [] }

-- the window of edges, the first of which has this number, from a backplane on
pub record IsWindowOf (b : State) (first : ℕ) (es : List Edge) (w : Seen) : Type 0 where
  pub first_is : w.first ≡ first
  pub wires_are : w.wires ≡ plan_wires_in b
  pub columns_are : w.columns ≡ map column_of (columns b es)

-- ---- its lines

abbrev pub digit_of : Digit → ℕ → ℕ
digit_of Tens = tens
digit_of Ones = ones

abbrev pub head_text : Seen → List ℕ
head_text w =
    title w.first (length w.columns)
    ++ tens_line w.first (length w.columns)
    ++ numbers_line ones w.first (length w.columns)

-- an edge is of the wire
abbrev pub is_moved : List Column → PlanWire → Bool
is_moved cs w = list_any (λ c. is_edge_of w.driver w.wire c.edge) cs

abbrev pub wire_line : Bool → List Column → PlanWire → List ℕ
wire_line color cs w =
    row color (wire_name w.driver w.wire) (wire_cells w.low w.driver w.wire cs)

abbrev pub wires_text : Bool → Seen → List ℕ
wires_text color w = flat_map (wire_line color w.columns) (filter (is_moved w.columns) w.wires)

abbrev pub topic_name : Topic → List ℕ
topic_name topic.GrantAt = codes "grant at"
topic_name topic.Holder = codes "holder"
topic_name topic.Shown = codes "shown"
topic_name topic.Verdict = codes "verdict"

abbrev pub topic_line : Bool → List Column → Topic → List ℕ
topic_line color cs t = row color (topic_name t) (map (cell t) cs)

abbrev pub topics : List Topic
topics = topic.GrantAt ∷ topic.Holder ∷ topic.Shown ∷ topic.Verdict ∷ []

abbrev pub topics_text : Bool → Seen → List ℕ
topics_text color w = flat_map (topic_line color w.columns) topics
