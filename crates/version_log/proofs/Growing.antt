-- The log of a view after loads and puts from its front on.
use Rattle.std.proofs.Common.{◌≡◌, ◌≢◌, ℕ, suc, ◌+◌, ◌-◌, ◌==◌, ◌&&◌, not, Bool, true, false, List, [], ◌∷◌, ◌++◌, length, length-append, get_or, sym, refl, ap, ◌∙◌, subst, arith, eq-eqb, ne_eqb, append-nil}
use Rattle.std.proofs.lemmas.Bool.{cond-true, cond-false}
use Rattle.std.proofs.lemmas.List.{length_push, get_or_push}
use mathlib.Core.List.{append_assoc}
use Rattle.step_core.specs.declared.view.View.{View}
use Rattle.step_core.specs.declared.view.Access.{Access}
use Rattle.step_core.specs.declared.view.Access.TheVariants.{Loaded}
use Rattle.step_core.specs.declared.words.Place.TheVariants.{Log}
use Rattle.step_core.specs.Answers.{put_found}
use Rattle.step_core.specs.Events.{grown, view_after_load}
use Rattle.step_core.specs.Maps.{AllOf}
use Rattle.step_core.specs.Meaning.{Meaning}
use Rattle.step_core.proofs.Slots.{put_won, put_lost}
use Rattle.shared_table.specs.Made.{MakesAll}
use Rattle.shared_table.specs.declared.answers.Put.{Put}
use Rattle.shared_table.specs.declared.answers.Put.TheVariants.{At, Full}
use Rattle.shared_table.specs.Puts.{tries_log, PutsEnd}
use Rattle.shared_table.specs.Steps.{LoadsLog, tried_log}
use Rattle.shared_table.proofs.Probing.{makes_more}
use Rattle.step_core.proofs.Lists.{all_append}
use Rattle.version_log.specs.Fronts.{log_loads, FindsRecords, IsPublished}

next_full : (log : List ℕ) (k n : ℕ) → k ≡ suc (length log) → (n ≡ 0 → ⊥) → grown log (k - 1) n ≡ log ++ n ∷ []
next_full log k n here full =
    let at : k - 1 ≡ length log = omega arith in
    let is : ((k - 1 == length log) && not (n == 0)) ≡ true = ap (λ (b : Bool). b && not (n == 0)) (eq-eqb (k - 1) (length log) at) ∙ ap (λ (b : Bool). true && not b) (ne_eqb n 0 full) in
    cond-true {A = List ℕ} ((k - 1 == length log) && not (n == 0)) (log ++ n ∷ []) log is

next_empty : (log : List ℕ) (k n : ℕ) → k ≡ suc (length log) → n ≡ 0 → grown log (k - 1) n ≡ log
next_empty log k n here none =
    let at : k - 1 ≡ length log = omega arith in
    let is : ((k - 1 == length log) && not (n == 0)) ≡ false = ap (λ (b : Bool). b && not (n == 0)) (eq-eqb (k - 1) (length log) at) ∙ ap (λ (b : Bool). true && not b) (eq-eqb n 0 none) in
    cond-false {A = List ℕ} ((k - 1 == length log) && not (n == 0)) (log ++ n ∷ []) log is

pub found_next : (v w : View) (k n : ℕ) → k ≡ suc (length v.log) → (n ≡ 0 → ⊥) → w ≡ view_after_load v (Log k) n [] → w.log ≡ v.log ++ n ∷ []
found_next v w k n here full e = ap (λ (z : View). z.log) e ∙ next_full v.log k n here full

pub found_end : (v w : View) (k n : ℕ) → k ≡ suc (length v.log) → n ≡ 0 → w ≡ view_after_load v (Log k) n [] → w.log ≡ v.log
found_end v w k n here none e = ap (λ (z : View). z.log) e ∙ next_empty v.log k n here none

loads_append : (k : ℕ) (ns : List ℕ) (n at : ℕ) → at ≡ k + length ns → log_loads k (ns ++ n ∷ []) ≡ log_loads k ns ++ Loaded (Log at) n ∷ []
loads_append k [] n at e = let z : k ≡ at = omega arith in ap (λ (i : ℕ). Loaded (Log i) n ∷ []) z
loads_append k (x ∷ ns) n at e = ap (λ (l : List Access). Loaded (Log k) x ∷ l) (loads_append (suc k) ns n at (omega arith))

module _ (m : Meaning) where
  -- the records found so far, of which the last is before the place k
  pub record Seen (v : View) (k : ℕ) (w : View) : Type 0 where
    pub records : List ℕ
    pub found : FindsRecords v records w
    pub makes : MakesAll m v (log_loads (suc (length v.log)) records) w
    pub upto : k ≡ suc (length w.log)

  pub no_record : (v : View) (k : ℕ) → k ≡ suc (length v.log) → Seen v k v
  no_record v k here = record { records = []; found = record { full = tt; log = sym (append-nil v.log) }; makes = refl; upto = here }

  makes_one : (v w y : View) (ns : List ℕ) (k n : ℕ) → k ≡ suc (length w.log) → w.log ≡ v.log ++ ns → MakesAll m v (log_loads (suc (length v.log)) ns) w → LoadsLog w k n y → MakesAll m v (log_loads (suc (length v.log)) (ns ++ n ∷ [])) y
  makes_one v w y ns k n here log makes l =
      let long = ap length log in
      let at : k ≡ suc (length v.log) + length ns = omega (arith, length-append v.log ns, long) in
      subst (λ (es : List Access). MakesAll m v es y) (sym (loads_append (suc (length v.log)) ns n k at))
      (makes_more m v w y (log_loads (suc (length v.log)) ns) (Loaded (Log k) n ∷ []) makes (y, l, refl))

  pub one_record : (v w y : View) (k n : ℕ) → Seen v k w → LoadsLog w k n y → (n ≡ 0 → ⊥) → Seen v (k + 1) y
  one_record v w y k n s l full =
      let grows = found_next w y k n s.upto full l.event in
      let long = ap length grows in
      let up = s.upto in record {
        records = s.records ++ n ∷ [];
        found = record {
          full = all_append (λ (x : ℕ). x ≡ 0 → ⊥) s.records (n ∷ []) s.found.full (full, tt);
          log = grows ∙ (ap (λ (z : List ℕ). z ++ n ∷ []) s.found.log ∙ append_assoc v.log s.records (n ∷ []));
        };
        makes = makes_one v w y s.records k n s.upto s.found.log s.makes l;
        upto = omega (arith, length_push w.log n, long, up);
      }

  pub front_found : (v w y : View) (k n : ℕ) → (s : Seen v k w) → LoadsLog w k n y → n ≡ 0 → FindsRecords v s.records y × MakesAll m v (log_loads (suc (length v.log)) (s.records ++ 0 ∷ [])) y × (y.log ≡ w.log)
  front_found v w y k n s l none =
      let same = found_end w y k n s.upto none l.event in (
        record { full = s.found.full; log = same ∙ s.found.log },
        subst (λ (x : ℕ). MakesAll m v (log_loads (suc (length v.log)) (s.records ++ x ∷ [])) y) none (makes_one v w y s.records k n s.upto s.found.log s.makes l),
        same,
      )

-- tries from the front on, each of which left a full place
pub tries_grow : (v : View) (k word : ℕ) (ns : List ℕ) → k ≡ suc (length v.log) → AllOf (λ n. n ≢ 0) ns → (tries_log v k word ns).log ≡ v.log ++ ns
tries_grow v k word [] here full = sym (append-nil v.log)
tries_grow v k word (n ∷ ns) here full =
    let u : View = tried_log v k word n in
    let is : u.log ≡ v.log ++ n ∷ [] = ap (λ (x : ℕ). grown v.log (k - 1) x) (put_lost n word full.0) ∙ next_full v.log k n here full.0 in
    let long = ap length is in
    let up : suc k ≡ suc (length u.log) = omega (arith, length_push v.log n, long) in
    tries_grow u (suc k) word ns up full.1 ∙ (ap (λ (z : List ℕ). z ++ ns) is ∙ append_assoc v.log (n ∷ []) ns)

tries_more : (v : View) (k word : ℕ) (ns : List ℕ) (n at : ℕ) → k + length ns ≡ at → tries_log v k word (ns ++ n ∷ []) ≡ tried_log (tries_log v k word ns) at word n
tries_more v k word [] n at e = let z : k ≡ at = omega arith in ap (λ (i : ℕ). tried_log v i word n) z
tries_more v k word (x ∷ ns) n at e = tries_more (tried_log v k word x) (suc k) word ns n at (omega arith)

pub won_last : (v w : View) (from k word : ℕ) (ns : List ℕ) → from ≡ suc (length v.log) → from + length ns ≡ k → AllOf (λ n. n ≢ 0) ns → (word ≡ 0 → ⊥) → w ≡ tries_log v from word (ns ++ 0 ∷ [])
    → (length w.log ≡ k) × (get_or w.log (k - 1) 0 ≡ word)
won_last v w from k word ns here upto full real e =
    let u : View = tries_log v from word ns in
    let before : u.log ≡ v.log ++ ns = tries_grow v from word ns here full in
    let long = ap length before in
    let at : k ≡ suc (length u.log) = omega (arith, length-append v.log ns, long) in
    let grows : grown u.log (k - 1) (put_found 0 word) ≡ u.log ++ word ∷ [] = ap (λ (x : ℕ). grown u.log (k - 1) x) (put_won 0 word refl) ∙ next_full u.log k word at real in
    let whole : w.log ≡ u.log ++ word ∷ [] = ap (λ (z : View). z.log) (e ∙ tries_more v from word ns 0 k upto) ∙ grows in
    let end : length u.log ≡ k - 1 = omega arith in
    (omega (arith, ap length whole, length_push u.log word), ap (λ (l : List ℕ). get_or l (k - 1) 0) whole ∙ get_or_push u.log word 0 (k - 1) end)

pub published : (v w : View) (from word : ℕ) (put : Put) → from ≡ suc (length v.log) → (word ≡ 0 → ⊥) → PutsEnd v w from word put → IsPublished word w put
published v w from word (At k) here real e = won_last v w from k word e.0 here e.1.upto e.1.full real e.3
published v w from word Full here real e = e.3
