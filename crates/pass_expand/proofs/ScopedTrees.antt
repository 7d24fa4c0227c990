-- Whether a tree expands in the scope of a loop, part by part.
use Rattle.std.proofs.Common.{◌≡◌, ℕ, ◌+◌, ◌*◌, ◌/◌, ◌%◌, ◌==◌, ◌&&◌, ◌<◌, ◌≤◌, List, Bool, true, false, refl, ap, ◌∙◌, sym, subst, length, get_or, drop, Option, arith}
use Rattle.std.specs.Option.{option_map_or}
use Rattle.mlir_ir.specs.Check.{IsWellFormed}
use Rattle.mlir_ir.specs.Rules.{same_type}
use Rattle.mlir_ir.specs.Typed.{Types}
use Rattle.mlir_ir.specs.declared.types.Func.{Func}
use Rattle.mlir_ir.specs.declared.types.IrType.{IrType}
use Rattle.pass_copy.specs.InScope.{InScope}
use Rattle.pass_copy.specs.Replaced.{Operation, StandsAt}
use Rattle.pass_copy.specs.Scopes.{HasScope}
use Rattle.pass_copy.proofs.OneScope.{in_scope}
use Rattle.scev_tree.specs.declared.tree.Tree.{Tree, Num}
use Rattle.scev_tree.specs.Polynomial.{Polynomial, Polynomials, ext, none, more, variable_of}
use Rattle.scev_tree.specs.Tree.{polynomial_of, polynomials}
use Rattle.scev_tree.proofs.ListedTrees.{polynomial_of_num}
use Rattle.pass_expand.specs.Expandable.{is_symbol, expands, all_expand}
use Rattle.pass_expand.proofs.PlacesFrom.{place_from, places_end}

-- a type that a search found in the scope
pub found_there : (f : Func) (t x : ℕ) (ty : IrType) (found : Option IrType) (b : Bool) (o : Operation) → IsWellFormed f → StandsAt f t o
    → HasScope f t (λ T. T x ≡ found) → b ≡ option_map_or (same_type ty) found false → InScope f t (λ T. b ≡ option_map_or (same_type ty) (T x) false)
found_there f t x ty found b o well stands h e = record {
  there = λ T here. e ∙ ap (λ r. option_map_or (same_type ty) r false) (sym ((in_scope f t (λ T. T x ≡ found) o well stands h).there T here));
}

symbol_is : (T : Types) (ty : IrType) (x : ℕ) → is_symbol T ty (variable_of false x) ≡ option_map_or (same_type ty) (T x) false
symbol_is T ty x =
    let odd : (2 * x + 1) % 2 ≡ 1 = omega arith in
    let half : (2 * x + 1) / 2 ≡ x = omega arith in
    (λ j. (odd j == 1) && option_map_or (same_type ty) (T (half j)) false)

module _ (f : Func) (t : ℕ) (ty : IrType) where
  abbrev Is : Bool → (Types → Bool) → Type 0
  Is b test = InScope f t (λ T. b ≡ test T)

  pub symbol_there : (b : Bool) (x : ℕ) → Is b (λ T. option_map_or (same_type ty) (T x) false) → Is b (λ T. is_symbol T ty (variable_of false x))
  symbol_there b x h = record { there = λ T here. h.there T here ∙ sym (symbol_is T ty x) }

  pub number_expands : (tree : Tree) (v : ℕ) → tree ≡ Num v → Is true (λ T. expands T ty (polynomial_of tree))
  number_expands tree v e = record { there = λ T here. ap (expands T ty) (sym (ap polynomial_of e ∙ polynomial_of_num v)) }

  pub places_expand : (tree : Tree) (x : ℕ) (ps : Polynomials) (s b : Bool) → polynomial_of tree ≡ ext x ps → s ≡ true → Is s (λ T. is_symbol T ty x)
      → Is b (λ T. all_expand T ty ps) → Is b (λ T. expands T ty (polynomial_of tree))
  places_expand tree x ps s b e is symbol places = record {
    there = λ T here.
        places.there T here ∙ ap (λ z. z && all_expand T ty ps) (sym is ∙ symbol.there T here) ∙ ap (expands T ty) (sym e);
  }

  pub no_symbol_expands : (tree : Tree) (x : ℕ) (ps : Polynomials) (s : Bool) → polynomial_of tree ≡ ext x ps → s ≡ false → Is s (λ T. is_symbol T ty x)
      → Is s (λ T. expands T ty (polynomial_of tree))
  no_symbol_expands tree x ps s e isnt symbol = record {
    there = λ T here. isnt ∙ ap (λ z. z && all_expand T ty ps) (sym isnt ∙ symbol.there T here) ∙ ap (expands T ty) (sym e);
  }

  -- places from one on expand where all do
  abbrev pub FromPlace : List Tree → ℕ → Type 0
  FromPlace ts i = InScope f t (λ T. all_expand T ty (polynomials ts) ≡ all_expand T ty (polynomials (drop i ts)))

  pub next_place : (ts : List Tree) (i : ℕ) (tree : Tree) (b : Bool) → i < length ts → tree ≡ get_or ts i tree → b ≡ true → Is b (λ T. expands T ty (polynomial_of tree))
      → FromPlace ts i → FromPlace ts (i + 1)
  next_place ts i tree b lt e is h so_far = record {
    there = λ T here.
        so_far.there T here ∙ ap (all_expand T ty) (place_from ts i tree lt e)
        ∙ ap (λ z. z && all_expand T ty (polynomials (drop (i + 1) ts))) (sym (h.there T here) ∙ is);
  }

  pub no_place : (ts : List Tree) (i : ℕ) (tree : Tree) (b : Bool) → i < length ts → tree ≡ get_or ts i tree → b ≡ false → Is b (λ T. expands T ty (polynomial_of tree))
      → FromPlace ts i → Is false (λ T. all_expand T ty (polynomials ts))
  no_place ts i tree b lt e isnt h so_far = record {
    there = λ T here.
        ap (λ z. z && all_expand T ty (polynomials (drop (i + 1) ts))) (sym isnt ∙ h.there T here)
        ∙ sym (so_far.there T here ∙ ap (all_expand T ty) (place_from ts i tree lt e));
  }

  pub last_place : (ts : List Tree) (i : ℕ) → length ts ≤ i → FromPlace ts i → Is true (λ T. all_expand T ty (polynomials ts))
  last_place ts i le so_far = record { there = λ T here. ap (all_expand T ty) (sym (places_end ts i le)) ∙ sym (so_far.there T here) }
