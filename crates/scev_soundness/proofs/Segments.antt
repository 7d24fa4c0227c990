-- Segments of runs of which facts hold.
use Rattle.std.proofs.Common.{◌≡◌, ◌==◌, List, [], ◌∷◌, ◌++◌, refl, Bool, true, false, if◌then◌else◌}
use Rattle.mlir_ir.specs.Runs.{Binding, State, Stop, Cut, End, Done, Stopped, Report, Segment, end_then, reports_then, run_then, stops, tick}
use Rattle.fresh_scev.specs.Facts.{Facts}
use Rattle.scev_soundness.specs.Holding.{AllHold}
use Rattle.scev_soundness.specs.Agreement.{Ends, IsSound}

pub all_append : (F : Facts) (a b : List Report) → AllHold F a → AllHold F b → AllHold F (a ++ b)
all_append F [] b p q = q
all_append F (v ∷ a) b p q = (p.0, all_append F a b p.1 q)

then_parts : (F : Facts) (e : End) (vs : List Report) (P Q : List Binding → Type 0)
    (go : List Binding → State → Segment)
    → AllHold F vs → Ends e P → ((env : List Binding) (s : State) → P env → IsSound F (go env s) Q)
    → AllHold F (vs ++ reports_then e (λ env s. (go env s).reports)) × Ends (end_then e (λ env s. (go env s).end)) Q
then_parts F (Done env s) vs P Q go h p k = let q = k env s p in (all_append F vs _ h q.holds, q.ends)
then_parts F (Stopped stop trace) vs P Q go h p k = (all_append F vs [] h tt, tt)

pub sound_then : (F : Facts) (r : Segment) (P Q : List Binding → Type 0) (go : List Binding → State → Segment)
    → IsSound F r P
    → ((env : List Binding) (s : State) → P env → IsSound F (go env s) Q) → IsSound F (run_then r go) Q
sound_then F r P Q go s k = let p = then_parts F r.end r.reports P Q go s.holds s.ends k in
    record { holds = p.0; ends = p.1 }

pub sound_if : (F : Facts) (t : Bool) (r s : Segment) (P : List Binding → Type 0) → (t ≡ true → IsSound F r P)
    → (t ≡ false → IsSound F s P)
    → IsSound F (if t then r else s) P
sound_if F true r s P a b = a refl
sound_if F false r s P a b = b refl

pub sound_stop : (F : Facts) (stop : Stop) (s : State) (P : List Binding → Type 0) → IsSound F (stops stop s) P
sound_stop F stop s P = record { holds = tt; ends = tt }

pub sound_tick : (F : Facts) (s : State) (go : State → Segment) (P : List Binding → Type 0)
    → ((later : State) → IsSound F (go later) P)
    → IsSound F (tick s go) P
sound_tick F s go P k = sound_if F (s.budget == 0) _ _ P (λ e. sound_stop F Cut s P) (λ e. k _)

pub ends_weaker : (e : End) (P Q : List Binding → Type 0) → ((env : List Binding) → P env → Q env) → Ends e P
    → Ends e Q
ends_weaker (Done env s) P Q f p = f env p
ends_weaker (Stopped stop trace) P Q f p = tt

pub sound_weaker : (F : Facts) (r : Segment) (P Q : List Binding → Type 0) → ((env : List Binding) → P env → Q env)
    → IsSound F r P → IsSound F r Q
sound_weaker F r P Q f s = record { holds = s.holds; ends = ends_weaker r.end P Q f s.ends }
