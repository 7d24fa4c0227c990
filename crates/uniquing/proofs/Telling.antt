-- What the call tells of a whole expression.
use Rattle.std.proofs.Common.{ℕ, List, [], ◌∷◌, ◌++◌, true≢false, sym, Result, Ok, Err, IsErr, OnErr}
use Rattle.step_core.specs.declared.view.View.{View}
use Rattle.step_core.specs.Meaning.{Meaning}
use Rattle.step_core.specs.Parts.{Part}
use Rattle.step_core.proofs.SameParts.{parts_stand}
use Rattle.shared_table.specs.declared.answers.Node.{Node}
use Rattle.shared_table.specs.declared.sizes.Sizes.{Sizes}
use Rattle.shared_table.specs.Known.{IsSeen}
use Rattle.uniquing.specs.declared.interning.CellsFull.{CellsFull}
use Rattle.uniquing.specs.Closing.{Asked, asked_of, Told, IsHistory}
use Rattle.uniquing.specs.Interned.{InternsBy, Interned, EndsFull, Lacks}
use Rattle.uniquing.specs.Nodes.{AllStand}
use Rattle.uniquing.proofs.Histories.{asks}

on_err : {A E : Type 0} (r : Result A E) (P : Type 0) → P → OnErr r P
on_err (Ok a) P h = tt
on_err (Err e) P h = h

told_err : (size : ℕ) (w : View) (whole : Part) (r : Result Node CellsFull) → IsErr r → Lacks size w.cells whole → Told size w (asked_of whole r)
told_err size w whole (Ok n) is l = absurd (true≢false (sym is))
told_err size w whole (Err e) is l = (λ t. absurd (true≢false t), λ t. l)

module _ (m : Meaning) (z : Sizes) (v w : View) (whole : Part) (seen : IsSeen (record { view = w; sizes = z })) where
  pub ok_parts : (id : ℕ) → Interned m z v whole (Ok id) w → AllStand w.cells whole
  ok_parts id x = λ q o. parts_stand w.cells whole q id x.ends o

  pub ok_history : (n : Node) → Interned m z v whole (Ok n.0) w → (asked : List Asked) → IsHistory z.cells v asked → IsHistory z.cells w (asked ++ asked_of whole (Ok n) ∷ [])
  ok_history n x asked h = asks (record { view = w; sizes = z }) seen m v asked whole (Ok n) x.events x.makes x.fills (λ t. (n.0, x.ends), λ t. absurd (true≢false (sym t))) h

  module _ (f : CellsFull) (r : Result Node CellsFull) (is : IsErr r) (x : Interned m z v whole (Err f) w) where
    pub err_full : OnErr r (Lacks z.cells w.cells whole)
    err_full = on_err r (Lacks z.cells w.cells whole) x.ends.0

    pub err_events : InternsBy m z v whole r w
    err_events = (x.events, x.makes, x.fills, on_err r (EndsFull z.cells w whole x.events) x.ends.1)

    pub err_history : (asked : List Asked) → IsHistory z.cells v asked → IsHistory z.cells w (asked ++ asked_of whole r ∷ [])
    err_history asked h = asks (record { view = w; sizes = z }) seen m v asked whole r x.events x.makes x.fills (told_err z.cells w whole r is x.ends.0) h
