-- Tables that grow one after another.
use Rattle.std.proofs.Common.{◌≡◌, ℕ, ◌+◌, ◌≤◌, refl, ◌∙◌, arith}
use Rattle.fresh_scev.specs.declared.table.Table.{Table}
use Rattle.fresh_scev.specs.Facts.{AreAlike}
use Rattle.fresh_scev.specs.Table.{facts_of, next_label, HasRoom, AreKnown, IsSameTable, Grows}

-- the label of the next fact moves on
pub next_later : (s t : Table) (n : ℕ) → Grows s t n → next_label t ≡ next_label s + n
next_later s t n g =
    let func = g.same.func in
    let items = g.same.items in
    let longer = g.longer in
    rw (func, items, longer) (omega arith)

pub same_tables : (s t u : Table) → IsSameTable s t → IsSameTable t u → IsSameTable s u
same_tables s t u a b = record { func = b.func ∙ a.func; items = b.items ∙ a.items; conditions = b.conditions ∙ a.conditions }

pub grows_on : (s t u : Table) (m n : ℕ) → Grows s t m → Grows t u n → Grows s u (m + n)
grows_on s t u m n a b =
    let next = next_later s t m a in
    let la = a.longer in
    let lb = b.longer in
    record {
      same = same_tables s t u a.same b.same;
      longer = omega (arith, la, lb);
      stay = record {
        exprs = λ l lt. a.stay.exprs l lt ∙ b.stay.exprs l (omega (arith, lt, next));
        roles = λ l lt. a.stay.roles l lt ∙ b.stay.roles l (omega (arith, lt, next));
        turns = λ l ge lt. a.stay.turns l ge lt ∙ b.stay.turns l ge (omega (arith, lt, next));
      };
      known = b.known;
    }

pub grows_none : (t : Table) → AreKnown (facts_of t) → Grows t t 0
grows_none t known = record {
  same = record { func = refl; items = refl; conditions = refl };
  longer = omega arith;
  stay = record { exprs = λ l lt. refl; roles = λ l lt. refl; turns = λ l ge lt. refl };
  known = known;
}

-- room that is left
pub room_later : (s t : Table) (m n : ℕ) → Grows s t m → HasRoom s (m + n) → HasRoom t n
room_later s t m n g r =
    let items = g.same.items in
    let longer = g.longer in
    let item = r.item in
    let indices = r.indices in
    record { item = rw items item; indices = omega (arith, longer, indices) }

pub room_less : (s : Table) (m n : ℕ) → n ≤ m → HasRoom s m → HasRoom s n
room_less s m n le r = let indices = r.indices in record { item = r.item; indices = omega (arith, indices, le) }

-- the facts of the values before stay alike
pub grown_alike : (s t : Table) (n : ℕ) → Grows s t n → AreAlike (facts_of s) (facts_of t) (next_label s)
grown_alike s t n g = record { exprs = λ l lt. g.stay.exprs l lt; roles = λ l lt. g.stay.roles l lt }
