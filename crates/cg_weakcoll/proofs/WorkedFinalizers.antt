-- The worked script with two exit finalizers and a string spelled like a name of one, by computation.
use Rattle.std.proofs.Common.{◌≡◌, ◌≢◌, refl, sym, ◌∙◌, ap, subst, ℕ, zero, suc, ◌+◌, Bool, true, false, not, ◌&&◌, ◌||◌, List, [], ◌∷◌, ◌++◌, Some, inl, inr, arith}
use Rattle.std.specs.Prelude.{◌==◌, option_map, slice_get, unwrap_or}
use Rattle.std.specs.Fmt.{digits}
use Rattle.std.specs.List.{list_all}
use Rattle.std.proofs.lemmas.Bool.{eq-eqb, eqb-true, not-true}
use Rattle.cg_script.specs.declared.ClassDef.{ClassDef}
use Rattle.cg_script.specs.declared.Proc.{Proc}
use Rattle.cg_script.specs.declared.Script.{Script}
use Rattle.cg_script.specs.declared.Command.{Command}
use Rattle.cg_script.specs.declared.Command.TheVariants.{Bind, Call, Del, MakeFunc, MakeInst, MakeRef, Print}
use Rattle.cg_script.specs.declared.Operand.TheVariants.{Name, Str as StrWord}
use Rattle.cg_script.specs.Texts.{command_names, operand_names}
use Rattle.cg_script.specs.Words.{atoms}
use Rattle.cg_script.specs.Forms.{bindings, openers}
use Rattle.cg_script.specs.Meanings.{meaning}
use Rattle.cg_script.specs.Reading.{meant, reading, spells}
use Rattle.cg_graph.specs.Member.{Includes, includes}
use Rattle.cg_graph.proofs.Members.{either, includes-of, true_and, true_or}
use Rattle.cg_machine.specs.Program.{body_of, classes, commands_of, procedures}
use Rattle.cg_weakcoll.specs.Expansion.{expansion}
use Rattle.cg_weakcoll.specs.Exits.{AllOther, AreOthers, Exit, IsExit, IsOther, exit_body, exit_commands, names_of}
use Rattle.cg_weakcoll.specs.WorkedExits.{HasBoth, the_first, the_second, their_script, two_finalizers}

spelled : reading (expansion two_finalizers) ≡ spells their_script.names their_script.items
unfolding digits expansion atoms openers bindings meaning meant
spelled = refl

-- tests that decide it
abbrev makes_proc : ℕ → Command → Bool
makes_proc p (MakeFunc name proc cells) = proc == p
makes_proc p command = false

abbrev pub others_pass : Exit → List ℕ → Bool
others_pass e names = list_all (λ t. not (includes (names_of e) t)) names

abbrev pub other_passes : Exit → Command → Bool
other_passes e command = others_pass e (command_names command) && not (makes_proc e.proc command)

abbrev pub all_pass : Exit → List Command → Bool
all_pass e [] = true
all_pass e (command ∷ commands) = other_passes e command && all_pass e commands

abbrev pub bodies_pass : Exit → ℕ → List Proc → Bool
bodies_pass e n [] = true
bodies_pass e n (p ∷ procs) = (n == e.proc || all_pass e p.body) && bodies_pass e (n + 1) procs

others_told : (e : Exit) (names : List ℕ) → others_pass e names ≡ true → AreOthers e names
others_told e [] passes name m = absurd m
others_told e (t ∷ names) passes name (inl is) = λ own. let p = not-true (includes (names_of e) t) (true_and (not (includes (names_of e) t))
    (others_pass e names) passes).0 in let no : true ≡ false = sym (includes-of (names_of e) t (subst (Includes (names_of e)) (sym is) own)) ∙ p in cc
others_told e (t ∷ names) passes name (inr m) = others_told e names (true_and (not (includes (names_of e) t)) (others_pass e names) passes).1 name m

other_told : (e : Exit) (command : Command) → other_passes e command ≡ true → IsOther e command
other_told e command passes =
    let both = true_and (others_pass e (command_names command)) (not (makes_proc e.proc command)) passes in
    record {
      names = others_told e (command_names command) both.0;
      makes = λ name cells is. let no : true ≡ false = sym (ap (makes_proc e.proc) is ∙ eq-eqb e.proc e.proc refl) ∙ not-true (makes_proc e.proc command) both.1 in cc;
    }

all_told : (e : Exit) (commands : List Command) → all_pass e commands ≡ true → AllOther e commands
all_told e [] passes command m = absurd m
all_told e (c ∷ commands) passes command (inl is) = subst (IsOther e) is (other_told e c (true_and (other_passes e c) (all_pass e commands) passes).0)
all_told e (c ∷ commands) passes command (inr m) = all_told e commands (true_and (other_passes e c) (all_pass e commands) passes).1 command m

bodies_told : (e : Exit) (n : ℕ) (procs : List Proc) → bodies_pass e n procs ≡ true → (i : ℕ) → n + i ≢ e.proc → AllOther e (unwrap_or (option_map (λ (x : Proc). x.body) (slice_get procs i)) [])
bodies_told e n [] passes i apart = λ command m. absurd m
bodies_told e n (p ∷ procs) passes zero apart = either (true_or (n == e.proc) (all_pass e p.body) (true_and (n == e.proc || all_pass e p.body)
    (bodies_pass e (n + 1) procs) passes).0) (λ t. absurd (apart (let same = eqb-true n e.proc t in omega (arith, same)))) (all_told e p.body)
bodies_told e n (p ∷ procs) passes (suc i) apart = bodies_told e (n + 1) procs (true_and (n == e.proc || all_pass e p.body) (bodies_pass e (n + 1) procs)
    passes).1 i (λ same. apart (omega (arith, same)))

pub classes_told : (p : ℕ) (class : ClassDef) → Includes (classes their_script.items) class → (class.del ≢ Some p) × (class.legacy ≢ Some p)
classes_told p class (inl is) = subst (λ (c : ClassDef). (c.del ≢ Some p) × (c.legacy ≢ Some p)) is (λ i. cc, λ i. cc)
classes_told p class (inr m) = absurd m

-- a script with an exit finalizer, by these tests
pub exit_there : (script : Script) (e : Exit) (front middle back : List Command) → body_of script e.proc ≡ exit_body e
    → commands_of script.items ≡ front ++ (exit_commands e ++ (middle ++ Call (Name e.exit) ∷ back))
    → all_pass e front ≡ true → all_pass e middle ≡ true → all_pass e back ≡ true → bodies_pass e 0 (procedures script.items) ≡ true
    → others_pass e (operand_names e.source) ≡ true → others_pass e (operand_names e.target) ≡ true
    → ((class : ClassDef) → Includes (classes script.items) class → (class.del ≢ Some e.proc) × (class.legacy ≢ Some e.proc))
    → e.watch ≢ e.exit → e.watch ≢ e.function → e.watch ≢ e.object → e.exit ≢ e.function → e.exit ≢ e.object → e.function ≢ e.object → IsExit script e
exit_there script e front middle back body commands first second third bodies source target classes w x f o p q = record {
  body = body;
  front = front;
  middle = middle;
  back = back;
  commands = commands;
  front_other = all_told e front first;
  middle_other = all_told e middle second;
  back_other = all_told e back third;
  bodies_other = λ proc apart. bodies_told e 0 (procedures script.items) bodies proc (λ same. apart (omega (arith, same)));
  source_other = others_told e (operand_names e.source) source;
  target_other = others_told e (operand_names e.target) target;
  classes_other = classes;
  watch_exit = w;
  watch_function = x;
  watch_object = f;
  exit_function = o;
  exit_object = p;
  function_object = q;
}

first_there : IsExit their_script the_first
first_there = exit_there their_script the_first (MakeFunc 2 0 [] ∷ MakeInst 3 0 ∷ MakeInst 4 0 ∷ [])
    (MakeFunc 14 2 [] ∷ Bind 13 (Name 2) ∷ MakeRef 12 (Name 4) (Name 13) ∷ Del 3 ∷ Print (StrWord 6) ∷ Call (Name 14) ∷ []) []
    refl refl refl refl refl refl refl refl (classes_told 1) (λ i. omega (arith, i)) (λ i. omega (arith, i)) (λ i. omega (arith, i)) (λ i. omega (arith, i)) (λ i. omega (arith, i)) (λ i. omega (arith, i))

second_there : IsExit their_script the_second
second_there = exit_there their_script the_second (MakeFunc 2 0 [] ∷ MakeInst 3 0 ∷ MakeInst 4 0 ∷ MakeFunc 9 1 [] ∷ Bind 8 (Name 2) ∷ MakeRef 7 (Name 3) (Name 8) ∷ [])
    (Del 3 ∷ Print (StrWord 6) ∷ []) (Call (Name 9) ∷ [])
    refl refl refl refl refl refl refl refl (classes_told 2) (λ i. omega (arith, i)) (λ i. omega (arith, i)) (λ i. omega (arith, i)) (λ i. omega (arith, i)) (λ i. omega (arith, i)) (λ i. omega (arith, i))

-- the calls are no other commands
abbrev calls : Command → Bool
calls (Call f) = true
calls command = false

abbrev none_calls : List Command → Bool
none_calls [] = true
none_calls (command ∷ commands) = not (calls command) && none_calls commands

apart_told : (commands : List Command) → none_calls commands ≡ true → (command : Command) → Includes commands command → calls command ≡ true → ⊥
apart_told [] passes command m t = m
apart_told (c ∷ commands) passes command (inl is) t = let n = not-true (calls c) (true_and (not (calls c)) (none_calls commands) passes).0 in let no : true
    ≡ false = sym t ∙ ap calls (sym is) ∙ n in cc
apart_told (c ∷ commands) passes command (inr m) t = apart_told commands (true_and (not (calls c)) (none_calls commands) passes).1 command m t

the_lines : List Command
the_lines = MakeFunc 2 0 [] ∷ MakeInst 3 0 ∷ MakeInst 4 0 ∷ MakeFunc 9 1 [] ∷ Bind 8 (Name 2) ∷ MakeRef 7 (Name 3) (Name 8) ∷ MakeFunc 14 2 []
    ∷ Bind 13 (Name 2) ∷ MakeRef 12 (Name 4) (Name 13) ∷ Del 3 ∷ Print (StrWord 6) ∷ []

pub both : HasBoth
unfolding the_lines
both = record {
  spelled = spelled;
  exits = record {
    each = λ e m. either m (λ is. subst (IsExit their_script) is first_there) (λ k. either k (λ is. subst (IsExit their_script) is second_there) (λ none. absurd none));
    lines = the_lines;
    commands = refl;
    others = λ command m call. apart_told the_lines refl command m (either call (λ is. ap calls (sym is)) (λ k. either k (λ is. ap calls (sym is)) (λ none. absurd none)));
  };
}
