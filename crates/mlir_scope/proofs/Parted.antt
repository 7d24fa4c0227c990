-- Branches as phrases, one branch at a time.
use Rattle.std.proofs.Common.{suc, ◌+◌, drop, drop-cons, add-one, ◌≡◌, ℕ, ◌<◌, ◌≤◌, List, [], ◌∷◌, length, slice_get, get_or, if◌then◌else◌, true, false, ltb, Option, Some, None, ap, ◌∙◌, sym, arith}
use Rattle.std.proofs.Math.ListN.{drop_of_length-le}
use Rattle.std.proofs.lemmas.Bool.{ltb-true}
use Rattle.std.proofs.lemmas.Bool.Decides.{nat_tests}
use Rattle.std.proofs.lemmas.Option.{slice_get-get_or, slice_get_past}
use Rattle.mlir_ir.specs.GrammarNumbers.{same_form}
use Rattle.mlir_ir.specs.Phrases.{Phrase, token, line, phrase_of, with_token}
use Rattle.mlir_ir.specs.Terminals.{terminal_of}
use Rattle.mlir_ir.specs.declared.syntax.Branch.{Branch, out-Branch}
use Rattle.mlir_ir.specs.declared.syntax.Form.{Form}
use Rattle.mlir_ir.specs.declared.syntax.Form.TheVariants.{Leaf}
use Rattle.mlir_ir.specs.declared.token.Token.{Token}
use Rattle.mlir_ir.proofs.Branches.{put_is}
use Rattle.mlir_scope.specs.Said.{said}

-- a branch with its later siblings, at any form in its place
abbrev pub placed : List Token → Branch → Form → Option Token → List Branch → Phrase
placed ts b form found bs =
    if same_form form Leaf
    then with_token (out-Branch b).token found (said ts bs)
    else line (out-Branch b).form (out-Branch b).token (said ts (out-Branch b).parts.items) (said ts bs)

said_cons : (ts : List Token) (b : Branch) (bs : List Branch) → said ts (b ∷ bs) ≡ placed ts b (out-Branch b).form (slice_get ts (out-Branch b).token) bs
said_cons ts b bs = ap (phrase_of ts) (put_is b _)

said_leaf : (ts : List Token) (xs bs : List Branch) (b : Branch) (found : Option Token)
    → xs ≡ b ∷ bs → (out-Branch b).form ≡ Leaf → slice_get ts (out-Branch b).token ≡ found
    → said ts xs ≡ with_token (out-Branch b).token found (said ts bs)
said_leaf ts xs bs b found is leaf here =
    ap (said ts) is ∙ said_cons ts b bs ∙ ap (λ form. placed ts b form (slice_get ts (out-Branch b).token) bs) leaf ∙ ap (λ o. placed ts b Leaf o bs) here

-- a leaf whose token is there
pub said_token : (ts : List Token) (xs bs : List Branch) (b : Branch) (t : Token)
    → xs ≡ b ∷ bs → (out-Branch b).form ≡ Leaf → true ≡ ltb (out-Branch b).token (length ts) → t ≡ get_or ts (out-Branch b).token t
    → said ts xs ≡ token (out-Branch b).token (terminal_of t) t.text (said ts bs)
said_token ts xs bs b t is leaf within here =
    said_leaf ts xs bs b (Some t) is leaf (slice_get-get_or ts (out-Branch b).token t (ltb-true _ _ (sym within)) ∙ ap Some (sym here))

-- a leaf whose token is missing
pub said_past : (ts : List Token) (xs bs : List Branch) (b : Branch)
    → xs ≡ b ∷ bs → (out-Branch b).form ≡ Leaf → false ≡ ltb (out-Branch b).token (length ts)
    → said ts xs ≡ said ts bs
said_past ts xs bs b is leaf past =
    let beyond : length ts ≤ (out-Branch b).token = grind (arith, nat_tests) in
    said_leaf ts xs bs b None is leaf (slice_get_past ts (out-Branch b).token beyond)

-- a line
pub said_line : (ts : List Token) (xs bs : List Branch) (b : Branch)
    → xs ≡ b ∷ bs → same_form (out-Branch b).form Leaf ≡ false
    → said ts xs ≡ line (out-Branch b).form (out-Branch b).token (said ts (out-Branch b).parts.items) (said ts bs)
said_line ts xs bs b is other =
    ap (said ts) is ∙ said_cons ts b bs
    ∙ ap (λ c. if c then with_token (out-Branch b).token (slice_get ts (out-Branch b).token) (said ts bs) else line (out-Branch b).form (out-Branch b).token (said ts (out-Branch b).parts.items) (said ts bs)) other

-- a list from one of its items on
pub cut_here : {X : Type 0} (xs : List X) (i : ℕ) (x : X) → i < length xs → x ≡ get_or xs i x → drop i xs ≡ x ∷ drop (i + 1) xs
cut_here xs i x h e = rw (add-one) (drop-cons xs i x h ∙ ap (λ y. y ∷ drop (suc i) xs) (sym e))

-- an item that is looked up, with those behind it
pub cut_found : {X : Type 0} (xs : List X) (i : ℕ) (x : X) → true ≡ ltb i (length xs) → x ≡ get_or xs i x → drop i xs ≡ x ∷ drop (i + 1) xs
cut_found xs i x h e = cut_here xs i x (ltb-true _ _ (sym h)) e

-- nothing is behind the end
pub cut_past : {X : Type 0} (xs : List X) (i : ℕ) → false ≡ ltb i (length xs) → drop i xs ≡ []
cut_past xs i h =
    let beyond : length xs ≤ i = grind (arith, nat_tests) in
    drop_of_length-le xs beyond

-- a list from one of its items on, which is read with some default
pub cut_at : {X : Type 0} (xs : List X) (i : ℕ) (d : X) → i < length xs → drop i xs ≡ get_or xs i d ∷ drop (i + 1) xs
cut_at xs i d h = rw (add-one) (drop-cons xs i d h)
