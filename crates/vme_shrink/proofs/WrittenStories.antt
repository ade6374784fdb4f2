-- What is written of a trace.
use Rattle.std.proofs.Common.{◌≡◌, ◌++◌, ◌∷◌, [], ℕ, List, All, IsTrue, Option, Some, Err, reverse, sym, ◌∙◌, ap, subst}
use mathlib.Core.List.{reverse-reverse}
use Rattle.vme_model.specs.declared.signals.Edge.{Edge}
use Rattle.vme_model.specs.declared.signals.Version.{Version}
use Rattle.vme_model.specs.History.{in_order}
use Rattle.vme_model.specs.Plan.{Plan}
use Rattle.vme_model.specs.Report.{at_power_up, trace_limit}
use Rattle.vme_model.specs.Signals.{is_well_formed}
use Rattle.vme_model.specs.Text.{text}
use Rattle.vme_model.specs.Verdict.{State, after, kept}
use Rattle.vme_trace.specs.declared.Fault.{Fault}
use Rattle.vme_trace.specs.declared.Fault.TheVariants.{Write}
use Rattle.vme_trace.specs.Writing.{AppendsFront}
use Rattle.vme_reading.specs.declared.EngineFault.TheVariants as fault
use Rattle.vme_reading.specs.Outcomes.{bench}
use Rattle.vme_reading.proofs.LegalTrace.{all_well_formed}
use Rattle.vme_shrink_search.specs.Stories.{IsFound, accepted}
use Rattle.vme_shrink_search.proofs.Lists.{kept_append, kept_plan, kept_version}
use Rattle.vme_shrink.specs.Shrinking.{IsFront, IsStoryText, WritesStory}

-- ---- the story of a front

bench_of : (p : Plan) (v : Version) (es : List Edge) (s : State) → s ≡ kept (bench p v) es
    → at_power_up s.version s.plan trace_limit ≡ bench p v
bench_of p v es s is =
    ap (λ (x : State). at_power_up x.version x.plan trace_limit) is
    ∙ (λ i. at_power_up (kept_version (bench p v) es i) (kept_plan (bench p v) es i) trace_limit)

pub found_of : (p : Plan) (v : Version) (es : List Edge) (front : State) (e : Edge) (g : List Edge)
    → IsFront p v es front
    → IsFound (at_power_up front.version front.plan trace_limit) (in_order front.history) e g
    → IsFound (bench p v) (accepted (bench p v) es) e g
found_of p v es front e g is found =
    let b = bench_of p v es front is in
    subst (λ h. IsFound (bench p v) h e g) (ap (λ (s : State). in_order s.history) is)
    (subst (λ (s : State). IsFound s (in_order front.history) e g) b found)

pub version_of : (p : Plan) (v : Version) (es : List Edge) (front : State) → IsFront p v es front
    → front.version ≡ v
version_of p v es front is =
    ap (λ (s : State). s.version) is ∙ kept_version (bench p v) es

-- its edges are well formed
pub story_formed : (b : State) (h : List Edge) (e : Edge) (g : List Edge) → IsFound b h e g
    → All (λ d. IsTrue (is_well_formed d)) g
story_formed b h e g found =
    subst (All (λ d. IsTrue (is_well_formed d))) (reverse-reverse g)
    (all_well_formed b.version b.plan (reverse g) found.story.legal)

-- ---- what a front writes

pub story_text : (p : Plan) (v : Version) (before : List Edge) (front : State) (e : Edge)
    (g list : List Edge) (version : Version) → IsFront p v before front
    → version ≡ front.version → list ≡ g
    → IsFound (at_power_up front.version front.plan trace_limit) (in_order front.history) e g
    → IsStoryText p v before e (text version (list ++ e ∷ []))
story_text p v before front e g list version is named same found = record {
  story = g;
  found = found_of p v before front e g is found;
  trace = (λ i. text ((named ∙ version_of p v before front is) i) (same i ++ e ∷ []));
}

pub story_cut : (p : Plan) (v : Version) (before : List Edge) (e : Edge)
    (old new : Option (List ℕ)) (f : Fault) (bytes : List ℕ) → f ≡ Write
    → IsStoryText p v before e bytes → AppendsFront old new bytes
    → WritesStory p v before e old new (Err f)
story_cut p v before e old new f bytes write story wrote =
    subst (λ x. WritesStory p v before e old new (Err x)) (sym write) (bytes, story, wrote)

-- ---- the next edge

pub front_next : (p : Plan) (v : Version) (es : List Edge) (e : Edge) (old now : State)
    → IsFront p v es old → now ≡ after old e → IsFront p v (es ++ e ∷ []) now
front_next p v es e old now is next =
    next ∙ ap (λ (s : State). after s e) is ∙ sym (kept_append (bench p v) es (e ∷ []))

-- the front of a trace under way
pub front_of : (p : Plan) (v : Version) (es : List Edge) (o : Option State) (front : State)
    → o ≡ Some front → o ≡ Some (kept (bench p v) es) → IsFront p v es front
front_of p v es o front some is = let same = sym some ∙ is in cc
