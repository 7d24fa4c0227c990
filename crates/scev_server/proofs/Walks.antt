-- A walk goes on by one command.
use Rattle.std.proofs.Common.{◌≡◌, ℕ, ◌+◌, ◌<◌, ◌≤◌, length, get_or, take, List, [], ◌∷◌, ◌++◌, ◌∙◌, ap, sym, subst, refl, append_assoc}
use Rattle.std.proofs.lemmas.List.{append-nil, take_more, take_all}
use Rattle.mlir_ir.specs.declared.types.Func.{Func}
use Rattle.scev_script.specs.Replies.{reply_lines}
use Rattle.scev_script.specs.declared.reply.Reply.{Reply}
use Rattle.scev_script.specs.declared.script.Command.{Command}
use Rattle.scev_script.specs.declared.script.Script.{Script}
use Rattle.scev_server.specs.Shown.{IsSession, state_of}
use Rattle.scev_server.specs.Walk.{State, Steps, IsWalk, start}
use Rattle.scev_server.specs.declared.state.State as program

pub walk_more : (funcs : List Func) (s : State) (cs : List Command) (text : List ℕ) (m : State) (c : Command) (reply : Reply) (next : State)
    → IsWalk funcs s cs text m → Steps funcs m c reply next → IsWalk funcs s (cs ++ c ∷ []) (text ++ reply_lines reply) next
walk_more funcs s [] text m c reply next w step =
    (reply, next, [], subst (λ x. Steps funcs x c reply next) w.1 step, (refl, refl), ap (λ t. t ++ reply_lines reply) w.0 ∙ sym (append-nil (reply_lines reply)))
walk_more funcs s (d ∷ ds) text m c reply next w step = (
  w.0,
  w.1,
  w.2 ++ reply_lines reply,
  w.3,
  walk_more funcs w.1 ds w.2 m c reply next w.4 step,
  ap (λ t. t ++ reply_lines reply) w.5 ∙ append_assoc (reply_lines w.0) w.2 (reply_lines reply),
)

-- the walk over the commands so far has added its lines
pub record HasWalked (funcs : List Func) (cs : List Command) (before behind : List ℕ) (s t : State) : Type 0 where
  pub text : List ℕ
  pub walk : IsWalk funcs s cs text t
  pub added : behind ≡ before ++ text

pub walked_none : (funcs : List Func) (before : List ℕ) (s : State) → HasWalked funcs [] before before s s
walked_none funcs before s = record { text = []; walk = (refl, refl); added = sym (append-nil before) }

pub walked_more : (funcs : List Func) (cs ds : List Command) (before mid behind : List ℕ) (s t u : State) (c : Command) (reply : Reply)
    → HasWalked funcs cs before mid s t → Steps funcs t c reply u → ds ≡ cs ++ c ∷ [] → behind ≡ mid ++ reply_lines reply → HasWalked funcs ds before behind s u
walked_more funcs cs ds before mid behind s t u c reply w step more added = record {
  text = w.text ++ reply_lines reply;
  walk = subst (λ x. IsWalk funcs s x (w.text ++ reply_lines reply) u) (sym more) (walk_more funcs s cs w.text t c reply u w.walk step);
  added = added ∙ ap (λ x. x ++ reply_lines reply) w.added ∙ append_assoc before w.text (reply_lines reply);
}

-- one element more of a list that a slice shows
pub taken_more : {X : Type 0} (xs ys : List X) (i : ℕ) (x : X) → ys ≡ xs → i < length ys → x ≡ get_or ys i x → take (i + 1) xs ≡ take i xs ++ x ∷ []
taken_more xs ys i x same lt is =
    subst (λ (zs : List _). take (i + 1) zs ≡ take i zs ++ x ∷ []) same (take_more ys i x lt ∙ ap (λ y. take i ys ++ y ∷ []) (sym is))

pub walked_all : (funcs : List Func) (script : Script) (shown : List Command) (before behind : List ℕ) (i : ℕ) (state : program.State) → shown ≡ script.commands → length shown ≤ i
    → HasWalked funcs (take i script.commands) before behind start (state_of state) → IsSession funcs script before behind state.held.items
walked_all funcs script shown before behind i state same end w =
    let all : take i script.commands ≡ script.commands = subst (λ (zs : List Command). take i zs ≡ zs) same (take_all i shown end) in
    (record { lines = w.text; state = state_of state }, subst (λ cs. IsWalk funcs start cs w.text (state_of state)) all w.walk, refl, w.added)
