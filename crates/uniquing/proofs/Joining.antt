-- Parts that are interned one behind the other.
use Rattle.std.proofs.Common.{ℕ, List, [], ◌++◌, sym, ap, ◌∙◌, subst, ⊎_elim, Result, Ok, Err, IsErr, true≢false}
use mathlib.Core.List.{append_assoc}
use Rattle.step_core.specs.declared.view.View.{View}
use Rattle.step_core.specs.declared.view.Access.{Access}
use Rattle.step_core.specs.Accesses.{won_cell, won_cells}
use Rattle.step_core.specs.Maps.{Map, Has}
use Rattle.step_core.specs.Meaning.{Meaning}
use Rattle.step_core.specs.Parts.{Part, IsPartOf}
use Rattle.step_core.proofs.SameParts.{part_trans}
use Rattle.step_core.proofs.Slots.{has_either}
use Rattle.step_core.proofs.Standing.{stands_more}
use Rattle.step_core.proofs.Wins.{gathered-append}
use Rattle.shared_table.specs.declared.sizes.Sizes.{Sizes}
use Rattle.shared_table.specs.CellPuts.{GainsCells}
use Rattle.shared_table.proofs.Probing.{gains_both, makes_more}
use Rattle.uniquing.specs.declared.interning.CellsFull.{CellsFull}
use Rattle.uniquing.specs.Interned.{FillsParts, EndsFull, Lacks, Ends, Interned}
use Rattle.uniquing.proofs.Filling.{gains_none}

pub fills_more : (v w : View) (a whole : Part) (es : List Access) → IsPartOf a whole → GainsCells v w → FillsParts v a es → FillsParts w whole es
fills_more v w a whole es o g f = λ at x h. let t = f at x h in (t.0, part_trans t.0 a whole t.1 o, stands_more v.cells w.cells g.cells at t.0 t.2)

pub fills_append : (w : View) (part : Part) (ds es : List Access) → FillsParts w part ds → FillsParts w part es → FillsParts w part (ds ++ es)
fills_append w part ds es a b = λ at x h. ⊎_elim (a at x) (b at x) (has_either (won_cells ds) (won_cells es) at x (subst (λ (l : Map). Has l at x) (gathered-append won_cell ds es) h))

full_later : (size : ℕ) (w : View) (a whole : Part) (ds es : List Access) → IsPartOf a whole → EndsFull size w a es → EndsFull size w whole (ds ++ es)
full_later size w a whole ds es o e = record {
  part = e.part;
  is_part = part_trans e.part a whole e.is_part o;
  word = e.word;
  stands = e.stands;
  before = ds ++ e.before;
  tries = e.tries;
  all = ap (λ (l : List Access). ds ++ l) e.all ∙ sym (append_assoc ds e.before e.tries);
  passes = e.passes;
}

lacks_more : (size : ℕ) (cells : Map) (a whole : Part) → IsPartOf a whole → Lacks size cells a → Lacks size cells whole
lacks_more size cells a whole o l = record { full = l.full; part = l.part; is_part = part_trans l.part a whole l.is_part o; nowhere = l.nowhere }

module _ (m : Meaning) (z : Sizes) where
  ends_later : (w : View) (part : Part) (itself : IsPartOf part part) (ds es : List Access) (r : Result ℕ CellsFull) → Ends z w part es r → Ends z w part (ds ++ es) r
  ends_later w part itself ds es (Ok id) e = e
  ends_later w part itself ds es (Err f) e = (e.0, full_later z.cells w part part ds es itself e.1)

  -- a part inside, and then the rest
  pub joined : (u v w : View) (a whole : Part) (i : ℕ) (r : Result ℕ CellsFull) → IsPartOf a whole → IsPartOf whole whole → Interned m z u a (Ok i) v → Interned m z v whole r w → Interned m z u whole r w
  joined u v w a whole i r o itself x y = record {
    gains = gains_both u v w x.gains y.gains;
    events = x.events ++ y.events;
    makes = makes_more m u v w x.events y.events x.makes y.makes;
    fills = fills_append w whole x.events y.events (fills_more v w a whole x.events o y.gains x.fills) y.fills;
    ends = ends_later w whole itself x.events y.events r y.ends;
  }

  -- a part inside got no cell
  pub failed : (u w : View) (a whole : Part) (f : CellsFull) → IsPartOf a whole → Interned m z u a (Err f) w → Interned m z u whole (Err f) w
  failed u w a whole f o x = record {
    gains = x.gains;
    events = x.events;
    makes = x.makes;
    fills = fills_more w w a whole x.events o (gains_none w) x.fills;
    ends = (lacks_more z.cells w.cells a whole o x.ends.0, full_later z.cells w a whole [] x.events o x.ends.1);
  }

  -- an error that is handed on
  pub handed : (u w : View) (whole : Part) (f : CellsFull) (r : Result ℕ CellsFull) → IsErr r → Interned m z u whole (Err f) w → Interned m z u whole r w
  handed u w whole f (Ok id) e x = absurd (true≢false (sym e))
  handed u w whole f (Err g) e x = record { gains = x.gains; events = x.events; makes = x.makes; fills = x.fills; ends = x.ends }
