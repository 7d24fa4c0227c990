use Rattle.std.proofs.Common.{◌≡◌, ℕ, Bool, true, false, ◌||◌, ◌&&◌, not, refl, List, [], ◌∷◌, ap, ◌∙◌, sym, ◌⊎◌, inl, inr, suc, zero, Some, slice_get}
use Rattle.std.specs.List.{list_all}
use Rattle.std.proofs.lemmas.Bool.{eqb-true}
use Rattle.mlir_ir.specs.GrammarNumbers.{number, same}
use Rattle.mlir_parse.specs.Tables.{terminals, forms}
use Rattle.mlir_ir.specs.declared.terminal.Terminal.{Terminal}
use Rattle.mlir_ir.specs.declared.terminal.Terminal.TheVariants.{Module, Function, Private, TypeWord, Return, Constant, Truth, Binary, FlaggedBinary, Cast, FlaggedCast, Compare, Predicate, Select, Call, If, Else, For, To, Step, IterArgs, While, Condition, Do, Yield, Overflow, Nsw, Nuw, OtherWord, Value, Symbol, Caret, Pick, Decimal, Hexadecimal, LeftParen, RightParen, LeftBrace, RightBrace, Less, Greater, Comma, Colon, Equals, Arrow, Minus}
use Rattle.mlir_ir.specs.declared.syntax.Form.{Form}
use Rattle.mlir_ir.specs.declared.syntax.Form.TheVariants.{Leaf, Whole, Func, Params, Types, Results, TypeName, Body, Ends, Uses, Use, Op, Pack, Kind, Inits, Region, Flags}

pub and_left : (a b : Bool) → (a && b) ≡ true → a ≡ true
and_left true b h = refl
and_left false b h = h

pub and_right : (a b : Bool) → (a && b) ≡ true → b ≡ true
and_right true b h = h
and_right false b h = cc

pub passes : {X : Type 0} (p : X → Bool) (xs : List X) → list_all p xs ≡ true → (n : ℕ) (x : X) → slice_get xs n ≡ Some x → p x ≡ true
passes p [] h n x e = cc
passes p (y ∷ ys) h zero x e = let same_item : y ≡ x = cc in rw (← same_item) (and_left (p y) (list_all p ys) h)
passes p (y ∷ ys) h (suc n) x e = passes p ys (and_right (p y) (list_all p ys) h) n x e

pub every_terminal : (p : Terminal → Bool) → list_all p terminals ≡ true → (c : Terminal) → p c ≡ true
every_terminal p h Module = passes p terminals h 0 Module refl
every_terminal p h Function = passes p terminals h 1 Function refl
every_terminal p h Private = passes p terminals h 2 Private refl
every_terminal p h TypeWord = passes p terminals h 3 TypeWord refl
every_terminal p h Return = passes p terminals h 4 Return refl
every_terminal p h Constant = passes p terminals h 5 Constant refl
every_terminal p h Truth = passes p terminals h 6 Truth refl
every_terminal p h Binary = passes p terminals h 7 Binary refl
every_terminal p h FlaggedBinary = passes p terminals h 8 FlaggedBinary refl
every_terminal p h Cast = passes p terminals h 9 Cast refl
every_terminal p h FlaggedCast = passes p terminals h 10 FlaggedCast refl
every_terminal p h Compare = passes p terminals h 11 Compare refl
every_terminal p h Predicate = passes p terminals h 12 Predicate refl
every_terminal p h Select = passes p terminals h 13 Select refl
every_terminal p h Call = passes p terminals h 14 Call refl
every_terminal p h If = passes p terminals h 15 If refl
every_terminal p h Else = passes p terminals h 16 Else refl
every_terminal p h For = passes p terminals h 17 For refl
every_terminal p h To = passes p terminals h 18 To refl
every_terminal p h Step = passes p terminals h 19 Step refl
every_terminal p h IterArgs = passes p terminals h 20 IterArgs refl
every_terminal p h While = passes p terminals h 21 While refl
every_terminal p h Condition = passes p terminals h 22 Condition refl
every_terminal p h Do = passes p terminals h 23 Do refl
every_terminal p h Yield = passes p terminals h 24 Yield refl
every_terminal p h Overflow = passes p terminals h 25 Overflow refl
every_terminal p h Nsw = passes p terminals h 26 Nsw refl
every_terminal p h Nuw = passes p terminals h 27 Nuw refl
every_terminal p h OtherWord = passes p terminals h 28 OtherWord refl
every_terminal p h Value = passes p terminals h 29 Value refl
every_terminal p h Symbol = passes p terminals h 30 Symbol refl
every_terminal p h Caret = passes p terminals h 31 Caret refl
every_terminal p h Pick = passes p terminals h 32 Pick refl
every_terminal p h Decimal = passes p terminals h 33 Decimal refl
every_terminal p h Hexadecimal = passes p terminals h 34 Hexadecimal refl
every_terminal p h LeftParen = passes p terminals h 35 LeftParen refl
every_terminal p h RightParen = passes p terminals h 36 RightParen refl
every_terminal p h LeftBrace = passes p terminals h 37 LeftBrace refl
every_terminal p h RightBrace = passes p terminals h 38 RightBrace refl
every_terminal p h Less = passes p terminals h 39 Less refl
every_terminal p h Greater = passes p terminals h 40 Greater refl
every_terminal p h Comma = passes p terminals h 41 Comma refl
every_terminal p h Colon = passes p terminals h 42 Colon refl
every_terminal p h Equals = passes p terminals h 43 Equals refl
every_terminal p h Arrow = passes p terminals h 44 Arrow refl
every_terminal p h Minus = passes p terminals h 45 Minus refl

pub every_form : (p : Form → Bool) → list_all p forms ≡ true → (f : Form) → p f ≡ true
every_form p h Leaf = passes p forms h 0 Leaf refl
every_form p h Whole = passes p forms h 1 Whole refl
every_form p h Func = passes p forms h 2 Func refl
every_form p h Params = passes p forms h 3 Params refl
every_form p h Types = passes p forms h 4 Types refl
every_form p h Results = passes p forms h 5 Results refl
every_form p h TypeName = passes p forms h 6 TypeName refl
every_form p h Body = passes p forms h 7 Body refl
every_form p h Ends = passes p forms h 8 Ends refl
every_form p h Uses = passes p forms h 9 Uses refl
every_form p h Use = passes p forms h 10 Use refl
every_form p h Op = passes p forms h 11 Op refl
every_form p h Pack = passes p forms h 12 Pack refl
every_form p h Kind = passes p forms h 13 Kind refl
every_form p h Inits = passes p forms h 14 Inits refl
every_form p h Region = passes p forms h 15 Region refl
every_form p h Flags = passes p forms h 16 Flags refl

abbrev pub agree : Bool → Bool → Bool
agree true b = b
agree false b = not b

pub agree_is : (a b : Bool) → agree a b ≡ true → a ≡ b
agree_is true true h = refl
agree_is true false h = cc
agree_is false true h = cc
agree_is false false h = refl

pub same_self : (c : Terminal) → same c c ≡ true
same_self Module = refl
same_self Function = refl
same_self Private = refl
same_self TypeWord = refl
same_self Return = refl
same_self Constant = refl
same_self Truth = refl
same_self Binary = refl
same_self FlaggedBinary = refl
same_self Cast = refl
same_self FlaggedCast = refl
same_self Compare = refl
same_self Predicate = refl
same_self Select = refl
same_self Call = refl
same_self If = refl
same_self Else = refl
same_self For = refl
same_self To = refl
same_self Step = refl
same_self IterArgs = refl
same_self While = refl
same_self Condition = refl
same_self Do = refl
same_self Yield = refl
same_self Overflow = refl
same_self Nsw = refl
same_self Nuw = refl
same_self OtherWord = refl
same_self Value = refl
same_self Symbol = refl
same_self Caret = refl
same_self Pick = refl
same_self Decimal = refl
same_self Hexadecimal = refl
same_self LeftParen = refl
same_self RightParen = refl
same_self LeftBrace = refl
same_self RightBrace = refl
same_self Less = refl
same_self Greater = refl
same_self Comma = refl
same_self Colon = refl
same_self Equals = refl
same_self Arrow = refl
same_self Minus = refl

pub in_turn_true : (p e q f s : Bool) → (p || (e && (q || (f && s)))) ≡ true → ((p || (e && q)) || ((e && f) && s)) ≡ true
in_turn_true true e q f s h = refl
in_turn_true false true q f s h = h
in_turn_true false false q f s h = h

pub left_true : (p e q f s : Bool) → (p || (e && s)) ≡ true → ((p || q) || ((e || f) && s)) ≡ true
left_true true e q f s h = refl
left_true false false q f s h = cc
left_true false true true f s h = refl
left_true false true false f s h = h

pub right_true : (p e q f s : Bool) → (q || (f && s)) ≡ true → ((p || q) || ((e || f) && s)) ≡ true
right_true true e q f s h = refl
right_true false e true f s h = refl
right_true false true false true s h = h
right_true false true false false s h = cc
right_true false false false f s h = h

pub again_true : (p e s : Bool) → (p || (e && (p || s))) ≡ true → (p || s) ≡ true
again_true true e s h = refl
again_true false true s h = h
again_true false false s h = cc

pub enough_true : (p s : Bool) → s ≡ true → (p || s) ≡ true
enough_true true s h = refl
enough_true false s h = h

pub more_true : (x e p q : Bool) → (q ≡ true → p ≡ true) → (x || (e && q)) ≡ true → (x || (e && p)) ≡ true
more_true true e p q k h = refl
more_true false true p q k h = k h
more_true false false p q k h = h

pub less_false : (p q : Bool) → (q ≡ true → p ≡ true) → p ≡ false → q ≡ false
less_false p true k h = cc (k refl)
less_false p false k h = refl

pub implied : (a b : Bool) → (not a || b) ≡ true → a ≡ true → b ≡ true
implied true b h e = h
implied false b h e = cc

pub apart : (a b : Bool) → not (a && b) ≡ true → a ≡ true → b ≡ false
apart true true h e = cc
apart true false h e = refl
apart false b h e = cc

pub at_number : (c : Terminal) → slice_get terminals (number c) ≡ Some c
at_number Module = refl
at_number Function = refl
at_number Private = refl
at_number TypeWord = refl
at_number Return = refl
at_number Constant = refl
at_number Truth = refl
at_number Binary = refl
at_number FlaggedBinary = refl
at_number Cast = refl
at_number FlaggedCast = refl
at_number Compare = refl
at_number Predicate = refl
at_number Select = refl
at_number Call = refl
at_number If = refl
at_number Else = refl
at_number For = refl
at_number To = refl
at_number Step = refl
at_number IterArgs = refl
at_number While = refl
at_number Condition = refl
at_number Do = refl
at_number Yield = refl
at_number Overflow = refl
at_number Nsw = refl
at_number Nuw = refl
at_number OtherWord = refl
at_number Value = refl
at_number Symbol = refl
at_number Caret = refl
at_number Pick = refl
at_number Decimal = refl
at_number Hexadecimal = refl
at_number LeftParen = refl
at_number RightParen = refl
at_number LeftBrace = refl
at_number RightBrace = refl
at_number Less = refl
at_number Greater = refl
at_number Comma = refl
at_number Colon = refl
at_number Equals = refl
at_number Arrow = refl
at_number Minus = refl

pub same_is : (c b : Terminal) → same c b ≡ true → b ≡ c
same_is c b h =
    let e : number c ≡ number b = eqb-true (number c) (number b) h in
    let p : slice_get terminals (number c) ≡ slice_get terminals (number b) = ap (slice_get terminals) e in
    let q : Some c ≡ Some b = sym (at_number c) ∙ p ∙ at_number b in
    cc
