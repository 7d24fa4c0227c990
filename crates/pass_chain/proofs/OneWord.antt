-- A record has one word, and a word one record.
use Rattle.std.proofs.Common.{◌≡◌, ℕ, ◌/◌, ◌%◌, ◌^◌, refl, ap, ◌∙◌, sym, arith}
use Rattle.arith_word.specs.declared.label.Label.{Label}
use Rattle.pass_chain.specs.Records.{kind_number, IsWordOf}
use Rattle.pass_chain.specs.declared.pass_kind.PassKind.{PassKind}
use Rattle.pass_chain.specs.declared.pass_kind.PassKind.TheVariants.{Unroll, UnrollFull, Peel, ExitValues, Reduce}
use Rattle.pass_chain.specs.declared.record.Rec.{Rec}

-- the fields of a word with what it has besides
by_fields : (w v : ℕ) → w / 2 ^ 57 ≡ v / 2 ^ 57 → w % 2 ^ 3 ≡ v % 2 ^ 3 → w / 2 ^ 3 % 2 ^ 6 ≡ v / 2 ^ 3 % 2 ^ 6
    → w / 2 ^ 9 % 2 ^ 32 ≡ v / 2 ^ 9 % 2 ^ 32 → w / 2 ^ 41 % 2 ^ 12 ≡ v / 2 ^ 41 % 2 ^ 12
    → w / 2 ^ 53 % 2 ^ 4 ≡ v / 2 ^ 53 % 2 ^ 4 → w ≡ v
by_fields w v mark kind param target parent author = omega (arith, mark, kind, param, target, parent, author)

pub one_word : (r : Rec) (w v : ℕ) → IsWordOf r w → IsWordOf r v → w ≡ v
one_word r w v a b =
    by_fields w v (a.is.marked ∙ sym b.is.marked) (a.kind ∙ sym b.kind) (a.param ∙ sym b.param)
    (a.target ∙ sym b.target) (a.parent ∙ sym b.parent) (a.author ∙ sym b.author)

one_kind : (k l : PassKind) → kind_number k ≡ kind_number l → k ≡ l
one_kind Unroll Unroll e = refl
one_kind UnrollFull UnrollFull e = refl
one_kind Peel Peel e = refl
one_kind ExitValues ExitValues e = refl
one_kind Reduce Reduce e = refl
one_kind k l e = absurd cc

one_label : (a b : Label) → a.0 ≡ b.0 → a ≡ b
one_label a b e = ap (λ (n : ℕ). record { 0 = n }) e

same_record : (a b : Rec) → a.author ≡ b.author → a.parent ≡ b.parent → a.kind ≡ b.kind → a.target ≡ b.target
    → a.param ≡ b.param → a ≡ b
same_record a b author parent kind target param =
    ap (λ (x : ℕ). record { author = x; parent = a.parent; kind = a.kind; target = a.target; param = a.param }) author
    ∙ (ap (λ (x : ℕ). record { author = b.author; parent = x; kind = a.kind; target = a.target; param = a.param }) parent
    ∙ (ap (λ (x : PassKind). record { author = b.author; parent = b.parent; kind = x; target = a.target; param = a.param }) kind
    ∙ (ap (λ (x : Label). record { author = b.author; parent = b.parent; kind = b.kind; target = x; param = a.param }) target
    ∙ ap (λ (x : ℕ). record { author = b.author; parent = b.parent; kind = b.kind; target = b.target; param = x }) param)))

pub one_record : (r q : Rec) (w : ℕ) → IsWordOf r w → IsWordOf q w → r ≡ q
one_record r q w a b =
    same_record r q (sym a.author ∙ b.author) (sym a.parent ∙ b.parent) (one_kind r.kind q.kind (sym a.kind ∙ b.kind))
    (one_label r.target q.target (sym a.target ∙ b.target)) (sym a.param ∙ b.param)
