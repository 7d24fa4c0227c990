use Rattle.std.proofs.Common.{ℕ, List, [], ◌∷◌, sym, subst}
use Rattle.step_core.specs.declared.event.Event.{Event}
use Rattle.step_core.specs.declared.event.Event.TheVariants.{Load, PutLog, PutCell, PutKey, PutId, ClearId, Note, Meet}
use Rattle.step_core.specs.declared.words.Place.TheVariants.{Log, Key, Id, Cell}
use Rattle.step_core.specs.Maps.{Map}
use Rattle.step_core.specs.Meaning.{Meaning, Laws}
use Rattle.step_core.specs.Good.{Good}
use Rattle.step_core.specs.Events.{State, Allowed, LearnsCells, Runs, after}
use Rattle.step_core.proofs.Keeping.{load_log_keeps, load_key_keeps, load_id_keeps, load_cell_keeps, put_at_keeps, put_cell_keeps, put_key_keeps, put_id_keeps, clear_id_keeps}
use Rattle.step_core.proofs.Splitting.{note_keeps, meet_keeps}
use Rattle.step_core.proofs.laws.events_keep_good.Goals as goal

module _ (m : Meaning) (laws : Laws m) (base : List ℕ) (count : ℕ) where
  one : (s : State) (e : Event) (now : Map) → Good m base count s.words s.views → (a : Allowed m s e) → LearnsCells s.words a.view e now → Good m base count (after s e now).words (after s e now).views
  one s (Load seat (Log k)) now g a l = rw a.live.at (load_log_keeps m laws base count s.words s.views seat a.view k g a.live.at a.live.unspent)
  one s (Load seat (Key k)) now g a l = rw a.live.at (load_key_keeps m laws base count s.words s.views seat a.view k g a.live.at a.live.unspent)
  one s (Load seat (Id k)) now g a l = rw a.live.at (load_id_keeps m laws base count s.words s.views seat a.view k now g a.live.at a.live.unspent l)
  one s (Load seat (Cell k)) now g a l = rw a.live.at (load_cell_keeps m laws base count s.words s.views seat a.view k now g a.live.at a.live.unspent l)
  one s (PutLog seat at word) now g a l = rw a.live.at (put_at_keeps m laws base count s.words s.views seat a.view at word g a.live.at a.live.unspent a.place a.may)
  one s (PutCell seat at word) now g a l = rw a.live.at (put_cell_keeps m laws base count s.words s.views seat a.view at word now g a.live.at a.live.unspent a.place a.may l.0 l.1)
  one s (PutKey seat at word) now g a l = rw a.live.at (put_key_keeps m laws base count s.words s.views seat a.view at word g a.live.at a.live.unspent a.place a.may)
  one s (PutId seat at word) now g a l = rw a.live.at (put_id_keeps m laws base count s.words s.views seat a.view at word now g a.live.at a.live.unspent a.may l)
  one s (ClearId seat at old) now g a l = rw a.live.at (clear_id_keeps m laws base count s.words s.views seat a.view at old now g a.live.at a.live.unspent l.0 l.1)
  one s (Note seat child) now g a l = rw a.live.at (note_keeps m base count s.words s.views seat a.view g a.live.at a.live.unspent)
  one s (Meet seat other) now g a l = rw a.live.at (rw a.may.2.at (meet_keeps m base count s.words s.views seat a.view other a.may.1 g a.live.at a.live.unspent a.may.0 a.may.2.at a.may.2.unspent))

  all : (s t : State) (es : List Event) → Good m base count s.words s.views → Runs m s es t → Good m base count t.words t.views
  all s t [] g r = subst (λ (z : State). Good m base count z.words z.views) (sym r) g
  all s t (e ∷ es) g r = all (after s e r.0) t es (one s e r.0 g r.1 r.2) r.3

pub returns : goal.returns
returns g c = λ base count s t events. all g.M.MemoMeaning.meaning g.M.MemoMeaning.laws base count s t events
