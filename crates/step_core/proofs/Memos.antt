-- The memos after puts and clearings.
use Rattle.std.proofs.Common.{◌≡◌, ℕ, ◌==◌, List, get_or, set, sym, refl, subst, ⊎_elim, arith}
use Rattle.std.proofs.lemmas.Bool.{cond_both}
use mathlib.Core.List.{IsPrefix}
use Rattle.step_core.specs.declared.words.Words.{Words}
use Rattle.step_core.specs.Words.{id_of}
use Rattle.step_core.specs.Maps.{Within, full_places}
use Rattle.step_core.specs.Meaning.{Meaning, Laws}
use Rattle.step_core.specs.Good.{IsKeyAt, IsIdAt, AreMemos}
use Rattle.step_core.specs.Answers.{put_found, clear_found}
use Rattle.step_core.proofs.Lists.{prefix_length}
use Rattle.step_core.proofs.Slots.{at_written, at_put, put_leaves}

module _ (m : Meaning) (laws : Laws m) where
  pub key_grows : (base log log' : List ℕ) (key : ℕ) → IsPrefix log log' → IsKeyAt m base log key → IsKeyAt m base log' key
  key_grows base log log' key p is = let long = prefix_length log log' p in let v = is.version in record { word = is.word; version = omega arith; valid = laws.grows base log log' key p is.valid }

  pub id_grows : (base log log' : List ℕ) (words words' : Words) (key word : ℕ) → IsPrefix log log' → Within (full_places words.cells) (full_places words'.cells) → IsIdAt m base log words key word → IsIdAt m base log' words' key word
  id_grows base log log' words words' key word p cells t = record {
    is_id = t.is_id;
    key_full = t.key_full;
    together = laws.stays base log log' (full_places words.cells) (full_places words'.cells) key (id_of word) p cells t.together;
  }

  -- log and cells grow
  pub memos_grow : (base log log' : List ℕ) (words words' : Words) → IsPrefix log log' → words'.keys ≡ words.keys → words'.ids ≡ words.ids → Within (full_places words.cells) (full_places words'.cells)
      → AreMemos m base log words → AreMemos m base log' words'
  memos_grow base log log' words words' p same_keys same_ids cells a = record {
    keys = λ k. subst (λ (l : List ℕ). (get_or l k 0 ≡ 0 → ⊥) → IsKeyAt m base log' (get_or l k 0)) (sym same_keys) (λ full. key_grows base log log' (get_or words.keys k 0) p (a.keys k full));
    ids = λ k. subst (λ (l : List ℕ). (get_or words'.ids k 0 ≡ 0 → ⊥) → IsIdAt m base log' words' (get_or l k 0) (get_or words'.ids k 0)) (sym same_keys)
        (subst (λ (l : List ℕ). (get_or l k 0 ≡ 0 → ⊥) → IsIdAt m base log' words' (get_or words.keys k 0) (get_or l k 0)) (sym same_ids)
        (λ full. id_grows base log log' words words' (get_or words.keys k 0) (get_or words.ids k 0) p cells (a.ids k full)));
  }

  -- the cells alone say where an id stands
  same_cells : (base log : List ℕ) (words words' : Words) (key word : ℕ) → words'.cells ≡ words.cells → IsIdAt m base log words key word → IsIdAt m base log words' key word
  same_cells base log words words' key word e t = record {
    is_id = t.is_id;
    key_full = t.key_full;
    together = subst (λ (l : List ℕ). m.stand base log (full_places l) key (id_of word)) (sym e) t.together;
  }

  pub memos_key : (base log : List ℕ) (words : Words) (k word : ℕ) → IsKeyAt m base log word → AreMemos m base log words
      → AreMemos m base log (record words { keys = set words.keys k (put_found (get_or words.keys k 0) word) })
  memos_key base log words k word is a =
      let ks : List ℕ = set words.keys k (put_found (get_or words.keys k 0) word) in
      let words' : Words = record words { keys = ks } in record {
        keys = λ i. ⊎_elim
            (λ (t : get_or ks i 0 ≡ get_or words.keys i 0). subst (λ (z : ℕ). (z ≡ 0 → ⊥) → IsKeyAt m base log z) (sym t) (a.keys i))
            (λ (t : (i ≡ k) × (get_or words.keys i 0 ≡ 0) × (get_or ks i 0 ≡ word)). subst (λ (z : ℕ). (z ≡ 0 → ⊥) → IsKeyAt m base log z) (sym t.2) (λ _. is))
            (at_put words.keys i k word);
        ids = λ i full. let t = a.ids i full in
            subst (λ (z : ℕ). IsIdAt m base log words' z (get_or words.ids i 0)) (sym (put_leaves words.keys i k word (get_or words.keys i 0) refl t.key_full)) (same_cells base log words words' (get_or words.keys i 0) (get_or words.ids i 0) refl t);
      }

  pub memos_id : (base log : List ℕ) (words : Words) (k word : ℕ) → IsIdAt m base log words (get_or words.keys k 0) word → AreMemos m base log words
      → AreMemos m base log (record words { ids = set words.ids k (put_found (get_or words.ids k 0) word) })
  memos_id base log words k word new a =
      let ns : List ℕ = set words.ids k (put_found (get_or words.ids k 0) word) in
      let words' : Words = record words { ids = ns } in
      let P = λ (i z : ℕ). (z ≡ 0 → ⊥) → IsIdAt m base log words' (get_or words.keys i 0) z in record {
        keys = a.keys;
        ids = λ i. ⊎_elim
            (λ (t : get_or ns i 0 ≡ get_or words.ids i 0). subst (P i) (sym t) (λ full. same_cells base log words words' (get_or words.keys i 0) (get_or words.ids i 0) refl (a.ids i full)))
            (λ (t : (i ≡ k) × (get_or words.ids i 0 ≡ 0) × (get_or ns i 0 ≡ word)). subst (P i) (sym t.2) (subst (λ (j : ℕ). P j word) (sym t.0) (λ _. same_cells base log words words' (get_or words.keys k 0) word refl new)))
            (at_put words.ids i k word);
      }

  pub memos_clear : (base log : List ℕ) (words : Words) (k old : ℕ) → AreMemos m base log words
      → AreMemos m base log (record words { ids = set words.ids k (clear_found (get_or words.ids k 0) old) })
  memos_clear base log words k old a =
      let n : ℕ = get_or words.ids k 0 in
      let ns : List ℕ = set words.ids k (clear_found n old) in
      let words' : Words = record words { ids = ns } in
      let P = λ (i z : ℕ). (z ≡ 0 → ⊥) → IsIdAt m base log words' (get_or words.keys i 0) z in
      let as_before = λ (i : ℕ) (full : get_or words.ids i 0 ≡ 0 → ⊥). same_cells base log words words' (get_or words.keys i 0) (get_or words.ids i 0) refl (a.ids i full) in record {
        keys = a.keys;
        ids = λ i. ⊎_elim
            (λ (t : get_or ns i 0 ≡ get_or words.ids i 0). subst (P i) (sym t) (as_before i))
            (λ (t : (i ≡ k) × (get_or ns i 0 ≡ clear_found n old)). subst (P i) (sym t.1) (subst (λ (j : ℕ). P j (clear_found n old)) (sym t.0) (cond_both (n == old) 0 n (P k) (λ _. λ ne. absurd (ne refl)) (λ _. as_before k))))
            (at_written words.ids i k (clear_found n old));
      }
