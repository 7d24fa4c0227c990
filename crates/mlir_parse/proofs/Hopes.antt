-- Whether tokens are a prefix of a module's token sequence, and which names are accepted after them.
use Rattle.std.proofs.Common.{suc, zero, ◌≡◌, ℕ, ◌+◌, ◌-◌, ◌<◌, ◌≤◌, Bool, true, false, List, [], ◌∷◌, ◌++◌, length, take, drop, refl, ap, ◌∙◌, sym, subst, arith, append_assoc, add-one, Some, slice_get, inl, inr, length-append, ◌==◌, ◌||◌, not, get_or, MatchBool}
use Rattle.std.proofs.lemmas.Bool.{cases_Bool, cases_lt, eqb-true, eqb-false, both_ways, not-true, or_cases}
use Rattle.std.proofs.lemmas.List.{take_all, append-nil, take-append-drop, take-append-le}
use Rattle.std.proofs.lemmas.Option.{slice_get-get_or, slice_get_within}
use Rattle.std.proofs.Math.Seq.{drop-length}
use Rattle.mlir_ir.specs.Texts.{Accepts, ends, IsText, BeginsText, IsSyntaxFault, IsTooDeep, IsShallow, opens, closes, is_module, step, opened, regions, names, is_unnamed, NameCouldStand, IsNotHere, IsOtherFault}
use Rattle.mlir_ir.specs.Trees.{Forest, IsTreeOf}
use Rattle.mlir_ir.specs.declared.terminal.Terminal.{Terminal}
use Rattle.mlir_ir.specs.declared.terminal.Terminal.TheVariants.{Module, Function, TypeWord, Constant, LeftBrace}
use Rattle.mlir_parse.proofs.Unique.{derives_accepts}
use Rattle.mlir_parse.proofs.Bools.{passes}
use Rattle.mlir_parse.proofs.Operations.{is_operation, constant_for}

-- tokens with a tree are a module's token sequence
pub tree_text : (ts : List Terminal) (xs : Forest) → IsTreeOf ts xs → IsText ts
tree_text ts xs d = derives_accepts d [] (subst (λ (z : List Terminal). Accepts [] z) (sym (drop-length ts)) ends)

-- tokens with a tree are a prefix of a module's token sequence
pub begins_of_tree : (ts : List Terminal) (xs : Forest) → IsTreeOf ts xs → BeginsText ts
begins_of_tree ts xs d = ([], subst IsText (sym (append-nil ts)) (tree_text ts xs d))

-- a prefix of a prefix is a prefix
pub take_begins : (ts : List Terminal) (k : ℕ) → BeginsText ts → BeginsText (take k ts)
take_begins ts k (more, text) =
    (drop k ts ++ more, subst IsText (ap (λ z. z ++ more) (sym (take-append-drop k ts)) ∙ append_assoc (take k ts) (drop k ts) more) text)

-- tokens whose syntax error is at their end are a prefix
pub begins_at_end : (ts : List Terminal) (k : ℕ) → IsSyntaxFault ts k → k ≡ length ts → BeginsText ts
begins_at_end ts k fault last = subst BeginsText (take_all k ts (omega (arith, last))) fault.before

-- tokens with an earlier syntax error are no prefix
pub begins_none : (ts : List Terminal) (k : ℕ) → IsSyntaxFault ts k → (k ≡ length ts → ⊥) → BeginsText ts → ⊥
begins_none ts k fault inside begun =
    let within : k ≤ length ts = fault.within in
    let less : k < length ts = omega arith in
    fault.none less (take_begins ts (k + 1) begun)

opened-append : (n : ℕ) (x y : List Terminal) → opened n (x ++ y) ≡ opened (opened n x) y
opened-append n [] y = refl
opened-append n (c ∷ x) y = opened-append (step n c) x y

take_next : (ts : List Terminal) (k : ℕ) (c : Terminal) → slice_get ts k ≡ Some c → take (suc k) ts ≡ take k ts ++ c ∷ []
take_next [] zero c here = cc
take_next [] (suc k) c here = cc
take_next (b ∷ ts) zero c here = let same : b ≡ c = cc in ap (λ z. z ∷ []) same
take_next (b ∷ ts) (suc k) c here = ap (λ z. b ∷ z) (take_next ts k c here)

-- an opening brace adds a region
regions_up : (x : List Terminal) → regions x ≡ 12 → regions (x ++ LeftBrace ∷ []) ≡ 13
regions_up [] full = absurd (omega (arith, full))
regions_up (c ∷ x) full =
    elim (cases_Bool (is_module c)) [
      | inl own ↦ let before : opened 0 x - 1 ≡ 12 = rw own at full in
          let after : opened 0 (x ++ LeftBrace ∷ []) ≡ opened 0 x + 1 = opened-append 0 x (LeftBrace ∷ []) in
          rw own (omega (arith, before, after))
      | inr other ↦ let before : opened 0 (c ∷ x) ≡ 12 = rw other at full in
          let after : opened 0 (c ∷ x ++ LeftBrace ∷ []) ≡ opened 0 (c ∷ x) + 1 = opened-append (step 0 c) x (LeftBrace ∷ []) in
          rw other (omega (arith, before, after))
    ]

-- after the brace thirteen regions are open
pub regions_behind : (ts : List Terminal) (k : ℕ) → IsTooDeep ts k → regions (take (k + 1) ts) ≡ 13
regions_behind ts k deep =
    let up : regions (take k ts ++ LeftBrace ∷ []) ≡ 13 = regions_up (take k ts) deep.full in
    rw (add-one k) (ap regions (take_next ts k LeftBrace deep.brace) ∙ up)

-- tokens within the limit on open regions have no region that is too deep
pub deep_not_shallow : (ts : List Terminal) (k : ℕ) → IsTooDeep ts k → IsShallow ts → ⊥
deep_not_shallow ts k deep shallow =
    let low : regions (take (k + 1) ts) ≤ 12 = shallow (k + 1) in
    omega (arith, low, regions_behind ts k deep)

step_flat : (n : ℕ) (t : Terminal) → opens t ≡ false → step n t ≤ n
step_flat n t flat =
    elim (cases_Bool (closes t)) [ inl down ↦ rw (flat, down) (omega arith) | inr same ↦ rw (flat, same) (omega arith) ]

regions_flat : (x : List Terminal) (t : Terminal) → opens t ≡ false → regions (x ++ t ∷ []) ≤ regions x
regions_flat [] t flat =
    let low : step 0 t ≤ 0 = step_flat 0 t flat in
    elim (cases_Bool (is_module t)) [ inl own ↦ rw own (omega arith) | inr other ↦ rw other low ]
regions_flat (c ∷ x) t flat =
    elim (cases_Bool (is_module c)) [
      | inl own ↦ let after : opened 0 (x ++ t ∷ []) ≡ step (opened 0 x) t = opened-append 0 x (t ∷ []) in
          let low : step (opened 0 x) t ≤ opened 0 x = step_flat (opened 0 x) t flat in
          rw own (omega (arith, after, low))
      | inr other ↦ let after : opened (step 0 c) (x ++ t ∷ []) ≡ step (opened (step 0 c) x) t = opened-append (step 0 c) x (t ∷ []) in
          let low : step (opened (step 0 c) x) t ≤ opened (step 0 c) x = step_flat (opened (step 0 c) x) t flat in
          rw other (omega (arith, after, low))
    ]

-- a token other than an opening brace keeps the tokens within the limit
pub shallow_more : (x : List Terminal) (t : Terminal) → opens t ≡ false → IsShallow x → IsShallow (x ++ t ∷ [])
shallow_more x t flat shallow k =
    elim (cases_lt (length x) k) [
      | inl beyond ↦ let whole : take k (x ++ t ∷ []) ≡ x ++ t ∷ [] = take_all k (x ++ t ∷ []) (omega (arith, length-append x (t ∷ []))) in
          let low : regions (x ++ t ∷ []) ≤ regions x = regions_flat x t flat in
          let all : take (length x) x ≡ x = take_all (length x) x (omega arith) in
          let most : regions (take (length x) x) ≤ 12 = shallow (length x) in
          omega (arith, ap regions whole, ap regions all, low, most)
      | inr within ↦ let front : take k (x ++ t ∷ []) ≡ take k x = take-append-le k x (t ∷ []) within in
          let most : regions (take k x) ≤ 12 = shallow k in
          omega (arith, ap regions front, most)
    ]

-- tokens with a syntax error are a prefix exactly if it is at their end
pub begins_by : (ts : List Terminal) (k : ℕ) → IsSyntaxFault ts k → MatchBool (k == length ts) (BeginsText ts) (BeginsText ts → ⊥)
begins_by ts k fault = decide (k == length ts) refl
  where
    decide : (b : Bool) → (k == length ts) ≡ b → MatchBool b (BeginsText ts) (BeginsText ts → ⊥)
    decide true e = begins_at_end ts k fault (eqb-true k (length ts) e)
    decide false e = begins_none ts k fault (eqb-false k (length ts) e)

-- tokens within the limit with a region that is too deep: a contradiction
pub begins_deep : (ts : List Terminal) (k : ℕ) → IsTooDeep ts k → IsShallow ts → BeginsText ts → ⊥
begins_deep ts k deep shallow = absurd (deep_not_shallow ts k deep shallow)

get_here : (ts : List Terminal) (at : ℕ) (w : Terminal) → at < length ts → w ≡ get_or ts at w → slice_get ts at ≡ Some w
get_here ts at w within here = slice_get-get_or ts at w within ∙ ap Some (sym here)

-- the kind of the syntax error at a word other than an operation name or a type depends on whether one of these is accepted
pub not_here_by : (ts : List Terminal) (at : ℕ) (d : Terminal) (could : Bool) → IsSyntaxFault ts at → at < length ts → is_unnamed (get_or ts at d) ≡ true
    → MatchBool could (NameCouldStand (take at ts)) (NameCouldStand (take at ts) → ⊥) → MatchBool could (IsNotHere ts at) (IsOtherFault ts at)
not_here_by ts at d true fault within unnamed could =
    record { fault = fault; word = get_or ts at d; here = slice_get-get_or ts at d within; unnamed = unnamed; could = could }
not_here_by ts at d false fault within unnamed could = record { fault = fault; other = λ h. could h.could }

-- the syntax error at an operation name, a type or a token that is no bare word
pub other_named : (ts : List Terminal) (at : ℕ) (w : Terminal) → IsSyntaxFault ts at → at < length ts → w ≡ get_or ts at w → is_unnamed w ≡ false → IsOtherFault ts at
other_named ts at w fault within here named =
    record {
      fault = fault;
      other = λ h.
          let both : Some w ≡ Some h.word = sym (get_here ts at w within here) ∙ h.here in
          let same : w ≡ h.word = cc in
          both_ways (is_unnamed h.word) (ap is_unnamed (sym same) ∙ named) h.unnamed;
    }

-- the syntax error at the end of the text
pub other_end : (ts : List Terminal) (at : ℕ) → IsSyntaxFault ts at → length ts ≤ at → IsOtherFault ts at
other_end ts at fault end = record { fault = fault; other = λ h. omega (arith, end, slice_get_within ts at h.word h.here) }

-- the probes that decide whether an operation name or a type is accepted: `arith.constant` is the probe for the operations
abbrev pub probes : List Terminal
probes = Module ∷ Function ∷ TypeWord ∷ Constant ∷ []

-- a probe opens no brace
pub probe_flat : (i : ℕ) (t : Terminal) → slice_get probes i ≡ Some t → opens t ≡ false
probe_flat i t here = not-true (opens t) (passes (λ z. not (opens z)) probes refl i t here)

-- a probe is an operation name or a type
pub probe_could : (ts : List Terminal) (i : ℕ) (t : Terminal) → slice_get probes i ≡ Some t → BeginsText (ts ++ t ∷ []) → NameCouldStand ts
probe_could ts zero t here begun = (0, t, here, begun)
probe_could ts (suc zero) t here begun = (1, t, here, begun)
probe_could ts (suc (suc zero)) t here begun = (2, t, here, begun)
probe_could ts (suc (suc (suc zero))) t here begun = (4, t, here, begun)
probe_could ts (suc (suc (suc (suc i)))) t here begun = cc

-- one more probe that is not accepted
pub none_more : (ts : List Terminal) (n : ℕ) (d : Terminal) → n < 4
    → ((i : ℕ) → i < n → (t : Terminal) → slice_get probes i ≡ Some t → BeginsText (ts ++ t ∷ []) → ⊥)
    → (BeginsText (ts ++ get_or probes n d ∷ []) → ⊥)
    → (i : ℕ) → i < n + 1 → (t : Terminal) → slice_get probes i ≡ Some t → BeginsText (ts ++ t ∷ []) → ⊥
none_more ts n d inside below last i less t is begun =
    elim (cases_lt i n) [
      | inl earlier ↦ below i earlier t is begun
      | inr later ↦ let same : i ≡ n = omega arith in
          let both : Some t ≡ Some (get_or probes n d) = sym is ∙ ap (slice_get probes) same ∙ slice_get-get_or probes n d inside in
          let one_name : t ≡ get_or probes n d = cc in
          last (subst (λ z. BeginsText (ts ++ z ∷ [])) one_name begun)
    ]

abbrev is_probe : Terminal → Bool
is_probe Module = true
is_probe Function = true
is_probe TypeWord = true
is_probe _ = false

probe_at : (t : Terminal) → is_probe t ≡ true → (i : ℕ) × (slice_get probes i ≡ Some t)
probe_at Module is = (0, refl)
probe_at Function is = (1, refl)
probe_at TypeWord is = (2, refl)
probe_at _ is = cc

-- where no probe is accepted, no operation name and no type is
pub none_could : (ts : List Terminal) → ((i : ℕ) → i < 4 → (t : Terminal) → slice_get probes i ≡ Some t → BeginsText (ts ++ t ∷ []) → ⊥) → NameCouldStand ts → ⊥
none_could ts none (i, t, is, begun) =
    elim (or_cases (is_operation t) (is_probe t) (passes (λ z. is_operation z || is_probe z) names refl i t is)) [
      | inl op ↦ none 3 (omega arith) Constant refl (constant_for ts t op begun)
      | inr probe ↦ let place = probe_at t probe in none place.0 (slice_get_within probes place.0 t place.1) t place.1 begun
    ]
