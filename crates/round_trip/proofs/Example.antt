-- A module to which the laws apply: two operations in one item, which the flat module parts.
use Rattle.std.proofs.Common.{◌≡◌, ℕ, zero, suc, ◌<◌, false, [], ◌∷◌, length, map, codes, refl, subst, arith, Some, slice_index_or}
use Rattle.std.specs.List.{All}
use Rattle.arith_word.specs.declared.label.Label.{Label}
use Rattle.mlir_ir.specs.declared.types.Arg.{Arg}
use Rattle.mlir_ir.specs.declared.types.Func.{Func}
use Rattle.mlir_ir.specs.declared.types.IrType.TheVariants.{Int}
use Rattle.mlir_ir.specs.declared.types.Kind.{Const, Call}
use Rattle.mlir_ir.specs.Values.{func_values, type_at}
use Rattle.mlir_ir.specs.Check.{IsWellFormed, row_breaks}
use Rattle.mlir_ir.specs.Calls.{Called, func_calls, FitsCallee, DoCallsFit}
use Rattle.mlir_ir.specs.Values.{Value}
use Rattle.round_trip.specs.Flat.{flat, flat_label}
use Rattle.round_trip.specs.KeepsLimits.{KeepsLimits}
use Rattle.round_trip.specs.Readable.{ReadableModule}
use Rattle.round_trip.specs.Widths.{IsPrintable}

abbrev pub small : Func
small = record {
  index = 0;
  name = codes "f";
  private = false;
  args = record { name = codes "a"; ty = Int 8 } ∷ [];
  results = Int 8 ∷ [];
  body = Some
      (record {
        items =
            record {
              ops =
                  record { packs = record { name = codes "c"; count = 1 } ∷ []; results = Int 8 ∷ []; kind = Const 255 }
                  ∷ record { packs = record { name = codes "d"; count = 1 } ∷ []; results = Int 8 ∷ []; kind = Call 0 (record { 0 = 16384 } ∷ []) } ∷ [];
            } ∷ [];
        ret = record { 0 = 16385 } ∷ [];
      });
}

pub small_kept : IsWellFormed small
unfolding row_breaks
small_kept = refl

-- the call fits
abbrev AreTypes : Func → Type 0
AreTypes g = (map (λ (label : Label). type_at (func_values small) label.0) (record { 0 = 16384 } ∷ []) ≡ map (λ (arg : Arg). Some arg.ty) g.args) × (Int 8 ∷ [] ≡ g.results)

call_fits : (k : ℕ) (d : Called) → k < length (func_calls small) → FitsCallee (small ∷ []) (func_values small) (slice_index_or (func_calls small) k d)
call_fits zero d l = (omega arith, λ callee e. let same : small ≡ callee = cc in subst AreTypes same (refl, refl))
call_fits (suc k) d l = absurd (omega arith)

small_fits : DoCallsFit (small ∷ [])
small_fits zero f e = let same : small ≡ f = cc in subst (λ (g : Func). All (FitsCallee (small ∷ []) (func_values g)) (func_calls g)) same call_fits
small_fits (suc k) f e = cc

pub small_printable : IsPrintable (small ∷ [])
small_printable = record {
  well_formed = (small_kept, tt);
  calls_fit = small_fits;
  widths = ((((omega arith, omega arith), tt), ((omega arith, omega arith), tt), ((((omega arith, omega arith), tt), tt, (((omega arith, omega arith), tt), tt, tt)), tt)), tt);
}

-- the second operation becomes the second item
pub small_readable : ReadableModule (small ∷ [])
small_readable =
    let c : Value = record { label = 16384; name = codes "c"; count = 1; place = 0; ty = Int 8 } in
    let d : Value = record { label = 16385; name = codes "d"; count = 1; place = 0; ty = Int 8 } in (
      (
        refl,
        ((omega arith, omega arith), tt),
        ((omega arith, omega arith), tt),
        (
          (
            ((omega arith, omega arith), tt),
            ((omega arith, omega arith), omega arith),
            (
              ((omega arith, omega arith), tt),
              (
                ((omega arith, omega arith), tt),
                (record { value = c; found = refl; place = omega arith; alone = λ e. refl; names = refl; seen = c; sees = refl; same = refl }, tt),
                refl,
              ),
              tt,
              (refl, refl),
            ),
            (refl, refl),
          ),
          (record { value = d; found = refl; place = omega arith; alone = λ e. refl; names = refl; seen = record d { label = 32768 }; sees = refl; same = refl }, tt),
          refl,
          (refl, tt),
        ),
      ),
      tt,
    )

pub small_limits : KeepsLimits (flat (small ∷ []))
small_limits = record { funcs = omega arith; ops = omega arith; items = (omega arith, tt) }

-- its returned value has another label there
pub small_moves : flat_label small.index small.body 16385 ≡ 32768
small_moves = refl
