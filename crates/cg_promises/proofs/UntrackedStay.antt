-- Untracked objects, by the parts of a world: what they refer to, and which changes of the objects keep this. Also: what a
-- collection gives up and moves is no tuple.
use Rattle.std.proofs.Common.{◌≡◌, ◌≢◌, refl, sym, ◌∙◌, subst, ℕ, ◌<◌, Bool, true, false, inl, inr, ◌⊎◌, List, ◌∷◌, map, None}
use Rattle.std.specs.Prelude.{◌==◌, if◌then◌else◌}
use Rattle.cg_value.specs.declared.Place.{Place}
use Rattle.cg_value.specs.declared.Place.TheVariants.{Untracked}
use Rattle.cg_script.specs.declared.Script.{Script}
use Rattle.cg_graph.specs.Member.{Includes}
use Rattle.cg_graph.specs.Value.{references}
use Rattle.cg_graph.specs.Object.{Object, is_tuple, with_place, with_referent}
use Rattle.cg_graph.proofs.Members.{either}
use Rattle.cg_machine.specs.declared.event.FrameSpec.{FrameSpec}
use Rattle.cg_machine.specs.Frame.{start_frame}
use Rattle.cg_machine.specs.Operands.{is_dict}
use Rattle.cg_machine.specs.Weak.{loses_referent}
use Rattle.cg_machine.specs.World.{World, Activity, Dying, Death, Collecting, Collection}
use Rattle.cg_represents.specs.Orderly.{runs_own_frame}
use Rattle.cg_laws.specs.Apart.{handles}
use Rattle.cg_laws.proofs.Pointwise.{IsOrder, Came, came, came_if, came_map}
use Rattle.cg_laws.proofs.Starting.{begun_frame, starts_either}

-- each object of a serial is an untracked tuple
abbrev pub IsLoose : List Object → ℕ → Type 0
IsLoose objects o = (z : Object) → Includes objects z → z.serial ≡ o → (is_tuple z ≡ true) × (z.place ≡ Untracked)

-- a tuple or a dictionary that refers only to such objects
abbrev pub IsSlackOne : List Object → Object → Type 0
IsSlackOne objects x = ((is_tuple x ≡ true) ⊎ (is_dict x ≡ true)) × ((o : ℕ) → Includes (references x.entries) o → IsLoose objects o)

-- a dying object without a frame of its own
abbrev pub IsFading : List Activity → ℕ → Type 0
IsFading stack n = (d : Death) × Includes stack (Dying d) × (d.object ≡ n) × (runs_own_frame d.phase ≡ false)

-- the garbage list and dying objects may be untracked
abbrev pub Excused : List Activity → ℕ → Type 0
Excused stack n = (n ≡ 1) ⊎ IsFading stack n

-- the serial of an object other than a tuple
abbrev pub IsNoTuple : ℕ → List Object → ℕ → Type 0
IsNoTuple next objects o = (o < next) × ((z : Object) → Includes objects z → z.serial ≡ o → is_tuple z ≡ false)

abbrev pub AreNoTuples : ℕ → List Object → Collection → Type 0
AreNoTuples next objects c = (o : ℕ) → Includes (handles c.phase) o → IsNoTuple next objects o

pub record Slack (next : ℕ) (objects : List Object) (stack : List Activity) : Type 0 where
  pub slack : (x : Object) → Includes objects x → x.place ≡ Untracked → Excused stack x.serial ⊎ IsSlackOne objects x
  pub handled : (c : Collection) → Includes stack (Collecting c) → AreNoTuples next objects c

abbrev pub IsSlackWorld : World → Type 0
IsSlackWorld w = Slack w.next_serial w.objects w.stack

-- the same object later: an untracked tuple stays one
pub record Stays (x y : Object) : Type 0 where
  pub serial : y.serial ≡ x.serial
  pub code : y.code ≡ x.code
  pub untracked : is_tuple x ≡ true → x.place ≡ Untracked → y.place ≡ Untracked

-- if it is untracked, it was before, and it has no new references
abbrev pub Loses : Object → Object → Type 0
Loses x y = y.place ≡ Untracked → (x.place ≡ Untracked) × ((o : ℕ) → Includes (references y.entries) o → Includes (references x.entries) o)

-- both, except for some objects that are treated separately
pub record StaysOrLoses (hard : ℕ → Type 0) (x y : Object) : Type 0 where
  pub stays : Stays x y
  pub loses : hard y.serial ⊎ Loses x y

abbrev pub Still : (ℕ → Type 0) → List Object → List Object → Type 0
Still hard before after = Came (StaysOrLoses hard) before after

-- for no object
abbrev pub Never : ℕ → Type 0
Never n = ⊥

pub goes_same : (hard : ℕ → Type 0) (x : Object) → StaysOrLoses hard x x
goes_same hard x = record { stays = record { serial = refl; code = refl; untracked = λ t u. u }; loses = inr (λ u. (u, λ o m. m)) }

tuple_kept : (x y : Object) → y.code ≡ x.code → is_tuple y ≡ is_tuple x
tuple_kept x y c = cc

dict_kept : (x y : Object) → y.code ≡ x.code → is_dict y ≡ is_dict x
dict_kept x y c = cc

pub goes : (hard : ℕ → Type 0) → IsOrder (StaysOrLoses hard)
goes hard = record {
  same = goes_same hard;
  trans = λ x y z h k. record {
    stays = record {
      serial = k.stays.serial ∙ h.stays.serial;
      code = k.stays.code ∙ h.stays.code;
      untracked = λ t u. k.stays.untracked (tuple_kept x y h.stays.code ∙ t) (h.stays.untracked t u);
    };
    loses = either k.loses (λ i. inl i) (λ l. either h.loses (λ i. inl (subst hard (sym k.stays.serial) i)) (λ f. inr (λ u. let c = l u in let d = f c.0 in (d.0, λ o i. d.1 o (c.1 o i)))));
  };
}

pub still_same : (hard : ℕ → Type 0) (objects : List Object) → Still hard objects objects
still_same hard = (came (StaysOrLoses hard) (goes hard)).same

pub still_trans : (hard : ℕ → Type 0) (before now after : List Object) → Still hard before now → Still hard now after → Still hard before after
still_trans hard = (came (StaysOrLoses hard) (goes hard)).trans

pub test_still : (hard : ℕ → Type 0) (f : Object → Object) (test : Object → Bool) (objects : List Object) → ((x : Object) → Includes objects x → test x ≡ true
    → StaysOrLoses hard x (f x)) → Still hard objects (map (λ x. if test x then f x else x) objects)
test_still hard = came_if (StaysOrLoses hard) (goes_same hard)

pub map_still : (hard : ℕ → Type 0) (f : Object → Object) (objects : List Object) → ((x : Object) → Includes objects x → StaysOrLoses hard x (f x)) → Still hard objects (map f objects)
map_still hard = came_map (StaysOrLoses hard) (goes_same hard)

-- an object other than an untracked tuple moves to a tracked place
pub placed_goes : (hard : ℕ → Type 0) (p : Place) (x : Object) → p ≢ Untracked → (is_tuple x ≡ true → x.place ≢ Untracked) → StaysOrLoses hard x (with_place p x)
placed_goes hard p x tracked apart = record { stays = record { serial = refl; code = refl; untracked = λ t u. absurd (apart t u) }; loses = inr (λ u. absurd (tracked u)) }

pub lost_still : (hard : ℕ → Type 0) (weak : ℕ) (objects : List Object) → Still hard objects (loses_referent weak objects)
lost_still hard weak objects = test_still hard (with_referent None) (λ x. x.serial == weak) objects
    (λ x m t. record { stays = record { serial = refl; code = refl; untracked = λ a u. u }; loses = inr (λ u. (u, λ o i. i)) })

-- excused afterwards, or slack
abbrev pub Fine : List Activity → List Object → ℕ → Type 0
Fine stack objects n = Excused stack n ⊎ ((y : Object) → Includes objects y → y.serial ≡ n → y.place ≡ Untracked → IsSlackOne objects y)

pub loose_later : (hard : ℕ → Type 0) (before after : List Object) (o : ℕ) → Still hard before after → IsLoose before o → IsLoose after o
loose_later hard before after o still loose z m e =
    let x = still z m in
    let k = loose x.0 x.1 (sym x.2.stays.serial ∙ e) in
    (tuple_kept x.0 z x.2.stays.code ∙ k.0, x.2.stays.untracked k.0 k.1)

pub moves_slack : (hard : ℕ → Type 0) (next : ℕ) (before after : List Object) (from to : List Activity) → Still hard before after
    → ((n : ℕ) → hard n → Fine to after n) → ((n : ℕ) → Excused from n → Fine to after n)
    → ((c : Collection) → Includes to (Collecting c) → AreNoTuples next before c) → Slack next before from → Slack next after to
moves_slack hard next before after from to still fine excused handled h = record {
  slack = λ y m u. either (still y m).2.loses (λ k. fine_here y m u (fine y.serial k)) (λ l. lost y m u (still y m).0 (still y m).1 (still y m).2.stays (l u));
  handled = λ c m o i. let k = handled c m o i in (k.0, λ z j e. let x = still z j in tuple_kept x.0 z x.2.stays.code ∙ k.1 x.0 x.1 (sym x.2.stays.serial ∙ e));
}
  where
    fine_here : (y : Object) → Includes after y → y.place ≡ Untracked → Fine to after y.serial → Excused to y.serial ⊎ IsSlackOne after y
    fine_here y m u f = either f (λ e. inl e) (λ s. inr (s y m refl u))

    lost : (y : Object) → Includes after y → y.place ≡ Untracked → (x : Object) → Includes before x → Stays x y → (x.place ≡ Untracked)
        × ((o : ℕ) → Includes (references y.entries) o → Includes (references x.entries) o) → Excused to y.serial ⊎ IsSlackOne after y
    lost y m u x i s l = either (h.slack x i l.0) (λ e. fine_here y m u (excused y.serial (subst (Excused from) (sym s.serial) e)))
        (λ k. inr (either k.0 (λ t. inl (tuple_kept x y s.code ∙ t)) (λ t. inr (dict_kept x y s.code ∙ t)), λ o r. loose_later hard before after o still (k.1 o (l.1 o r))))

-- no death ends
pub excused_on : (from to : List Activity) (after : List Object) → ((d : Death) → Includes from (Dying d) → Includes to (Dying d)) → (n : ℕ) → Excused from n → Fine to after n
excused_on from to after deaths n (inl e) = inl (inl e)
excused_on from to after deaths n (inr f) = inl (inr (f.0, deaths f.0 f.1, f.2, f.3))

-- an activity is replaced
pub turn_slack : (hard : ℕ → Type 0) (next : ℕ) (a b : Activity) (below : List Activity) (before after : List Object) → Still hard before after
    → ((n : ℕ) → hard n → Fine (b ∷ below) after n) → ((d : Death) → a ≢ Dying d) → ((c : Collection) → b ≡ Collecting c → AreNoTuples next before c)
    → Slack next before (a ∷ below) → Slack next after (b ∷ below)
turn_slack hard next a b below before after still fine live handled h = moves_slack hard next before after (a ∷ below) (b ∷ below) still fine
    (excused_on (a ∷ below) (b ∷ below) after (λ d m. either m (λ e. absurd (live d e)) (λ k. inr k))) (λ c m. either m (λ e. handled c e) (λ k. h.handled c (inr k))) h

-- an activity that is no death ends, or one that is no working collection is pushed
pub end_slack : (next : ℕ) (a : Activity) (below : List Activity) (objects : List Object) → ((d : Death) → a ≢ Dying d) → Slack next objects (a ∷ below) → Slack next objects below
end_slack next a below objects live h = moves_slack Never next objects objects (a ∷ below) below (still_same Never objects) (λ n no. absurd no)
    (excused_on (a ∷ below) below objects (λ d m. either m (λ e. absurd (live d e)) (λ k. k))) (λ c m. h.handled c (inr m)) h

pub push_slack : (next : ℕ) (a : Activity) (stack : List Activity) (objects : List Object) → ((c : Collection) → a ≡ Collecting c → AreNoTuples next objects c)
    → Slack next objects stack → Slack next objects (a ∷ stack)
push_slack next a stack objects handled h = moves_slack Never next objects objects stack (a ∷ stack) (still_same Never objects) (λ n no. absurd no)
    (excused_on stack (a ∷ stack) objects (λ d m. inr m)) (λ c m. either m (λ e. handled c e) (λ k. h.handled c k)) h

pub starts_slack : (script : Script) (spec : FrameSpec) (u : World) → IsSlackWorld u → IsSlackWorld (start_frame script spec u).1
starts_slack script spec u h = starts_either (λ lines. IsSlackWorld) script spec u (record { slack = h.slack; handled = h.handled })
    (λ some. push_slack u.next_serial (begun_frame script spec) u.stack u.objects (λ c e. cc) h)
