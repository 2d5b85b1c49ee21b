-- The commands of a well-formed script, and how many objects a run of it can make.
use Rattle.std.proofs.Common.{◌≡◌, refl, sym, ◌∙◌, ap, subst, ℕ, ◌<◌, ◌≤◌, inl, inr, List, [], ◌∷◌, ◌++◌, Option, None, Some, length, arith}
use Rattle.std.specs.Prelude.{slice_get, option_map, unwrap_or, IfSome}
use Rattle.std.specs.List.{All}
use Rattle.std.proofs.lemmas.List.Elements.{All-head, All-tail}
use Rattle.cg_script.specs.declared.Script.{Script}
use Rattle.cg_script.specs.declared.Command.{Command}
use Rattle.cg_script.specs.declared.item.Item.{Item}
use Rattle.cg_script.specs.declared.item.Item.TheVariants.{Def, Run}
use Rattle.cg_script.specs.declared.item.Proc.{Proc}
use Rattle.cg_script.specs.Spelled.{IsSpelled, IsSpelledItem, IsSpelledCommand}
use Rattle.cg_graph.specs.Member.{Includes}
use Rattle.cg_graph.specs.Object.{Object, serials}
use Rattle.cg_graph.specs.Store.{Store, IsLive}
use Rattle.cg_graph.proofs.Members.{Includes-map}
use Rattle.cg_machine.specs.Program.{commands_of, procedures, body_of}
use Rattle.cg_machine.specs.World.{World, Framed}
use Rattle.cg_laws.specs.Lawful.{IsLawful}
use Rattle.cg_represents.specs.Represents.{Represents}
use Rattle.cg_represents.proofs.Lists.{slice_get_member}
use Rattle.cg_commands.specs.declared.locals.Locals.{Locals}
use Rattle.cg_commands.specs.Stands.{LocalsLive}
use Rattle.cg_interp.specs.declared.activity.Activity.TheVariants as activity
use Rattle.cg_interp.specs.Engines.{State, StandsFor, frame_of, under}
use Rattle.cg_interp.specs.Callers.{AreDoable}
use Rattle.cg_interp.proofs.LawsOfEngines.{is_live}

-- a property of all holds of one
of_all : {X : Type 0} (P : X → Type 0) (xs : List X) (x : X) → All P xs → Includes xs x → P x
of_all P [] x all m = absurd m
of_all P (y ∷ xs) x all (inl same) = subst P same (All-head P y xs all)
of_all P (y ∷ xs) x all (inr m) = of_all P xs x (All-tail P y xs all) m

command_line : (items : List Item) (c : Command) → Includes (commands_of items) c → Includes items (Run c)
command_line [] c m = absurd m
command_line (Run d ∷ items) c (inl same) = inl (ap Run same)
command_line (Run d ∷ items) c (inr m) = inr (command_line items c m)
command_line (_ ∷ items) c m = inr (command_line items c m)

procedure_line : (items : List Item) (p : Proc) → Includes (procedures items) p → Includes items (Def p)
procedure_line [] p m = absurd m
procedure_line (Def q ∷ items) p (inl same) = inl (ap Def same)
procedure_line (Def q ∷ items) p (inr m) = inr (procedure_line items p m)
procedure_line (_ ∷ items) p m = inr (procedure_line items p m)

pub few_commands : (items : List Item) → length (commands_of items) ≤ length items
few_commands [] = omega arith
few_commands (Run c ∷ items) = omega (arith, few_commands items)
few_commands (_ ∷ items) = omega (arith, few_commands items)

module _ (script : Script) (spelled : IsSpelled script) where
  -- the commands outside procedures can be done
  pub script_doable : (names : ℕ) → names ≡ length script.names → AreDoable names (commands_of script.items)
  script_doable names same c m = subst (λ n. IsSpelledCommand n c) (sym same) (of_all (IsSpelledItem (length script.names)) script.items (Run c) spelled.lines (command_line script.items c m))

  -- a property of an empty body and of each procedure's holds of the body with a number
  of_body : (P : List Command → Type 0) (number : ℕ) → P [] → ((p : Proc) → Includes (procedures script.items) p → P p.body) → P (body_of script number)
  of_body P number none each = by (slice_get (procedures script.items) number) refl
    where
      by : (x : Option Proc) → slice_get (procedures script.items) number ≡ x → P (unwrap_or (option_map (λ (p : Proc). p.body) (slice_get (procedures script.items) number)) [])
      by None e = subst (λ x. P (unwrap_or (option_map (λ (p : Proc). p.body) x) [])) (sym e) none
      by (Some p) e = subst (λ x. P (unwrap_or (option_map (λ (q : Proc). q.body) x) [])) (sym e) (each p (slice_get_member (procedures script.items) number p e))

  -- so can those of a procedure
  pub body_doable : (names number : ℕ) → names ≡ length script.names → AreDoable names (body_of script number)
  body_doable names number same = of_body (AreDoable names) number (λ c m. absurd m) (λ p i c m.
      subst (λ n. IsSpelledCommand n c) (sym same)
      (of_all (IsSpelledCommand (length script.names)) p.body c (of_all (IsSpelledItem (length script.names)) script.items (Def p) spelled.lines (procedure_line script.items p i)).1 m))

  pub short_bodies : (number : ℕ) → length (body_of script number) ≤ 400000
  short_bodies number = of_body (λ body. length body ≤ 400000) number (omega arith) (λ p i. (of_all (IsSpelledItem (length script.names)) script.items (Def p)
      spelled.lines (procedure_line script.items p i)).0)

  -- A serial is far below 2^63.
  pub low_serials : (budget : ℕ) (store : Store) (w : World) → Represents store w → IsLawful script budget w → budget ≤ 100000 → store.last < 9223372036854775808
  low_serials budget store w represents lawful low = omega (arith, lawful.serials 400000 short_bodies, represents.next_serial, few_commands script.items, spelled.few_lines, low)

-- the locals of the top frame live
pub locals_are_live : (script : Script) (budget : ℕ) (e : State) (locals : Locals) (procedure : ℕ) (next : Option ℕ) (w : World)
    → StandsFor script (under (activity.Frame locals procedure next) e) w → IsLawful script budget w
    → LocalsLive e.store (Some locals)
locals_are_live script budget e locals procedure next w stands lawful =
    (is_live e.store w locals.subject stands.represents (lawful.locals.subjects (frame_of script locals procedure next) on), by locals.func refl)
  where
    on : Includes w.stack (Framed (frame_of script locals procedure next))
    on = subst (λ st. Includes st (Framed (frame_of script locals procedure next))) (sym (stands.shows.is ∙ ap (λ l. l ++ stands.shows.below) stands.shows.shows)) (inl refl)

    by : (function : Option ℕ) → locals.func ≡ function → IfSome function (λ f. IsLive e.store f)
    by None is = tt
    by (Some f) is =
        let found = lawful.locals.functions (frame_of script locals procedure next) on f is in
        is_live e.store w f stands.represents (subst (Includes (serials w.objects)) found.2 (Includes-map (λ (x : Object). x.serial) w.objects found.0 found.1))
