-- Worked scripts, each with what it prints: the rules of the machine by example. Where the order of something is free, this
-- is one of the permitted texts. (Ours, written from the rules of docs/RULES.md.)
use Rattle.std.specs.Prelude.{◌≡◌, ℕ, List, [], ◌∷◌, pos, negsuc, codes, None, Some}
use Rattle.cg_script.specs.declared.Script.{Script}
use Rattle.cg_script.specs.declared.Operand.TheVariants.{None as NoneWord, Int as IntWord, Str as StrWord, Name, SelfLocal, WeakLocal, Cell, Garbage}
use Rattle.cg_script.specs.declared.Item.TheVariants.{Run as Line, Def, Class, Budget, Profile, Shutdown}
use Rattle.cg_script.specs.declared.Command.TheVariants.{MakeList, MakeTuple, MakeDict, MakeInst, MakeFunc, MakeRef, Bind, Del, Append, SetItem, DelItem, Put, Remove, SetAttr, DelAttr, Item as ItemOf, Get, Attr, Deref, Call, Quit, Collect, Enable, Disable, Threshold, Flags, Freeze, Unfreeze, Print, Refs, Tracked, Finalized, Referents, Referrers, Why, Count, Gens}
use Rattle.cg_machine.specs.World.{Outcome, Ended, BudgetIsSpent}
use Rattle.cg_machine.specs.Run.{StepTaken, IsWholeRun}
use Rattle.cg_machine.specs.Lines.{text_of}

-- a script, its budget, how its run ends, and what it prints
pub record WorkedScript : Type 0 where
  pub script : Script
  pub budget : ℕ
  pub outcome : Outcome
  pub text : List ℕ

-- a whole run of it has this text
pub record Prints (worked : WorkedScript) : Type 0 where
  pub steps : List StepTaken
  pub run : IsWholeRun worked.script worked.budget worked.outcome steps
  pub text : text_of worked.script steps ≡ worked.text

abbrev pub EachPrints : List WorkedScript → Type 0
EachPrints [] = Unit {0}
EachPrints (worked ∷ others) = Prints worked × EachPrints others

--
abbrev pub an_empty_script : WorkedScript
an_empty_script = record {
  script = record { names = []; items = [] };
  budget = 10000;
  outcome = Ended;
  text = codes "end\n";
}

-- a = list; del a
abbrev pub made_and_freed : WorkedScript
made_and_freed = record {
  script = record { names = codes "a" ∷ []; items = Line (MakeList 0 ([])) ∷ Line (Del 0) ∷ [] };
  budget = 10000;
  outcome = Ended;
  text = codes "made list #2\nfree #2\nend\n";
}

-- a = list; append a a; del a; collect 2
abbrev pub a_list_that_holds_itself : WorkedScript
a_list_that_holds_itself = record {
  script = record { names = codes "a" ∷ []; items = Line (MakeList 0 ([])) ∷ Line (Append (Name 0) (Name 0)) ∷ Line (Del 0) ∷ Line (Collect (pos 2)) ∷ [] };
  budget = 10000;
  outcome = Ended;
  text = codes "made list #2\ngc start 2\nfree #2\ngc stop 2 1 0\ncollected 1\nend\n";
}

-- def d; x = self; end; class C del=d; a = new C; setattr a me a; del a; collect 2; del x; collect 2
abbrev pub brought_back_by_its_finalizer : WorkedScript
brought_back_by_its_finalizer = record {
  script = record {
    names = codes "d" ∷ codes "x" ∷ codes "C" ∷ codes "a" ∷ codes "me" ∷ [];
    items = Def (record { name = 0; body = Bind 1 SelfLocal ∷ [] })
        ∷ Class (record { name = 2; del = (Some 0); legacy = None }) ∷ Line (MakeInst 3 0) ∷ Line (SetAttr (Name 3) 4 (Name 3)) ∷ Line (Del 3)
        ∷ Line (Collect (pos 2)) ∷ Line (Del 1) ∷ Line (Collect (pos 2)) ∷ [];
  };
  budget = 10000;
  outcome = Ended;
  text = codes "made instance #2\ngc start 2\nenter del #2\nleave\nalive #2\ngc stop 2 0 0\ncollected 0\ngc start 2\nfree #2\ngc stop 2 1 0\ncollected 1\nend\n";
}

-- a = list; a = list; del a; del a
abbrev pub a_name_bound_twice : WorkedScript
a_name_bound_twice = record {
  script = record { names = codes "a" ∷ []; items = Line (MakeList 0 ([])) ∷ Line (MakeList 0 ([])) ∷ Line (Del 0) ∷ Line (Del 0) ∷ [] };
  budget = 10000;
  outcome = Ended;
  text = codes "made list #2\nmade list #3\nfree #2\nfree #3\nrefused 1\nend\n";
}

-- a = list; b = list a; c = list b a; del a; del b; del c
abbrev pub deaths_in_depth : WorkedScript
deaths_in_depth = record {
  script = record {
    names = codes "a" ∷ codes "b" ∷ codes "c" ∷ [];
    items = Line (MakeList 0 ([])) ∷ Line (MakeList 1 ((Name 0) ∷ []))
        ∷ Line (MakeList 2 ((Name 1) ∷ (Name 0) ∷ [])) ∷ Line (Del 0) ∷ Line (Del 1) ∷ Line (Del 2) ∷ [];
  };
  budget = 10000;
  outcome = Ended;
  text = codes "made list #2\nmade list #3\nmade list #4\nfree #2\nfree #3\nfree #4\nend\n";
}

-- a = list 5; append a none; append 3 a; refs 7; refs a
abbrev pub refused_kinds : WorkedScript
refused_kinds = record {
  script = record {
    names = codes "a" ∷ [];
    items = Line (MakeList 0 ((IntWord (pos 5)) ∷ [])) ∷ Line (Append (Name 0) NoneWord)
        ∷ Line (Append (IntWord (pos 3)) (Name 0)) ∷ Line (Refs (IntWord (pos 7))) ∷ Line (Refs (Name 0)) ∷ [];
  };
  budget = 10000;
  outcome = Ended;
  text = codes "made list #2\nrefused 2\nrefused 2\nrefs 1\nend\n";
}

-- class C; k = new C; l = list; d = dict; put d k l; del k; del l; del d
abbrev pub key_and_value_of_a_dying_dictionary : WorkedScript
key_and_value_of_a_dying_dictionary = record {
  script = record {
    names = codes "C" ∷ codes "k" ∷ codes "l" ∷ codes "d" ∷ [];
    items = Class (record { name = 0; del = None; legacy = None })
        ∷ Line (MakeInst 1 0) ∷ Line (MakeList 2 ([])) ∷ Line (MakeDict 3) ∷ Line (Put (Name 3) (Name 1) (Name 2)) ∷ Line (Del 1) ∷ Line (Del 2) ∷ Line (Del 3)
        ∷ [];
  };
  budget = 10000;
  outcome = Ended;
  text = codes "made instance #2\nmade list #3\nmade dict #4\nfree #3\nfree #2\nfree #4\nend\n";
}

-- print 'a; print -5; x = list 1; print garbage; print c0
abbrev pub printed_values : WorkedScript
printed_values = record {
  script = record {
    names = codes "a" ∷ codes "x" ∷ [];
    items = Line (Print (StrWord 0)) ∷ Line (Print (IntWord (negsuc 4)))
        ∷ Line (MakeList 1 ((IntWord (pos 1)) ∷ [])) ∷ Line (Print Garbage) ∷ Line (Print (Cell 0)) ∷ [];
  };
  budget = 10000;
  outcome = Ended;
  text = codes "value 'a\nvalue -5\nmade list #2\nvalue #1\nrefused 1\nend\n";
}

-- def d; x = self; end; class C del=d; a = new C; del a; gens; del x
abbrev pub brought_back_from_a_death_by_count : WorkedScript
brought_back_from_a_death_by_count = record {
  script = record {
    names = codes "d" ∷ codes "x" ∷ codes "C" ∷ codes "a" ∷ [];
    items = Def (record { name = 0; body = Bind 1 SelfLocal ∷ [] })
        ∷ Class (record { name = 2; del = (Some 0); legacy = None }) ∷ Line (MakeInst 3 0) ∷ Line (Del 3) ∷ Line (Gens) ∷ Line (Del 1) ∷ [];
  };
  budget = 10000;
  outcome = Ended;
  text = codes "made instance #2\nenter del #2\nleave\nalive #2\ngens 1 0 0 0\nfree #2\nend\n";
}

-- def p; end; class C; f = func p; a = new C; u = ref a f; v = ref a f; del a
abbrev pub callbacks_newest_first : WorkedScript
callbacks_newest_first = record {
  script = record {
    names = codes "p" ∷ codes "C" ∷ codes "f" ∷ codes "a" ∷ codes "u" ∷ codes "v" ∷ [];
    items = Def (record { name = 0; body = [] })
        ∷ Class (record { name = 1; del = None; legacy = None }) ∷ Line (MakeFunc 2 0 ([])) ∷ Line (MakeInst 3 0) ∷ Line (MakeRef 4 (Name 3) (Name 2))
        ∷ Line (MakeRef 5 (Name 3) (Name 2)) ∷ Line (Del 3) ∷ [];
  };
  budget = 10000;
  outcome = Ended;
  text = codes "made function #2\nmade instance #3\nmade weakref #4\nmade weakref #5\ncleared #5\ncleared #4\nenter callback #5\nleave\nenter callback #4\nleave\nfree #3\nend\n";
}

-- def cb; end; class C; f = func cb; a = new C; w = ref a f; setattr a me a; setattr a w w; del w; del a; collect 2
abbrev pub condemned_weak_references_call_nothing_back : WorkedScript
condemned_weak_references_call_nothing_back = record {
  script = record {
    names = codes "cb" ∷ codes "C" ∷ codes "f" ∷ codes "a" ∷ codes "w" ∷ codes "me" ∷ [];
    items = Def (record { name = 0; body = [] })
        ∷ Class (record { name = 1; del = None; legacy = None }) ∷ Line (MakeFunc 2 0 ([])) ∷ Line (MakeInst 3 0) ∷ Line (MakeRef 4 (Name 3) (Name 2))
        ∷ Line (SetAttr (Name 3) 5 (Name 3)) ∷ Line (SetAttr (Name 3) 4 (Name 4)) ∷ Line (Del 4) ∷ Line (Del 3) ∷ Line (Collect (pos 2)) ∷ [];
  };
  budget = 10000;
  outcome = Ended;
  text = codes "made function #2\nmade instance #3\nmade weakref #4\ngc start 2\ncleared #4\nfree #4\nfree #3\ngc stop 2 2 0\ncollected 2\nend\n";
}

-- a = list; t = tuple a; append a t; del a; del t; collect 2
abbrev pub a_cycle_through_a_tuple : WorkedScript
a_cycle_through_a_tuple = record {
  script = record {
    names = codes "a" ∷ codes "t" ∷ [];
    items = Line (MakeList 0 ([])) ∷ Line (MakeTuple 1 ((Name 0) ∷ [])) ∷ Line (Append (Name 0) (Name 1))
        ∷ Line (Del 0) ∷ Line (Del 1) ∷ Line (Collect (pos 2)) ∷ [];
  };
  budget = 10000;
  outcome = Ended;
  text = codes "made list #2\nmade tuple #3\ngc start 2\nfree #3\nfree #2\ngc stop 2 2 0\ncollected 2\nend\n";
}

-- a = list; append a a; collect 0; del a; collect 0; collect 1
abbrev pub a_cycle_that_survived : WorkedScript
a_cycle_that_survived = record {
  script = record {
    names = codes "a" ∷ [];
    items = Line (MakeList 0 ([])) ∷ Line (Append (Name 0) (Name 0)) ∷ Line (Collect (pos 0)) ∷ Line (Del 0)
        ∷ Line (Collect (pos 0)) ∷ Line (Collect (pos 1)) ∷ [];
  };
  budget = 10000;
  outcome = Ended;
  text = codes "made list #2\ngc start 0\ngc stop 0 0 0\ncollected 0\ngc start 0\ngc stop 0 0 0\ncollected 0\ngc start 1\nfree #2\ngc stop 1 1 0\ncollected 1\nend\n";
}

-- def p; end; class C legacy=p; a = new C; setattr a me a; del a; collect 2; x = item garbage 0; refs x; delitem garbage 0; refs x
abbrev pub a_legacy_cycle : WorkedScript
a_legacy_cycle = record {
  script = record {
    names = codes "p" ∷ codes "C" ∷ codes "a" ∷ codes "me" ∷ codes "x" ∷ [];
    items = Def (record { name = 0; body = [] })
        ∷ Class (record { name = 1; del = None; legacy = (Some 0) }) ∷ Line (MakeInst 2 0) ∷ Line (SetAttr (Name 2) 3 (Name 2)) ∷ Line (Del 2)
        ∷ Line (Collect (pos 2)) ∷ Line (ItemOf 4 Garbage (pos 0)) ∷ Line (Refs (Name 4)) ∷ Line (DelItem Garbage (pos 0)) ∷ Line (Refs (Name 4)) ∷ [];
  };
  budget = 10000;
  outcome = Ended;
  text = codes "made instance #2\ngc start 2\ngc saved #2\ngc stop 2 0 1\ncollected 1\nrefs 3\nrefs 2\nend\n";
}

-- def d; end; class C del=d; a = new C; setattr a me a; del a; debug saveall; collect 2; debug; delitem garbage 0; collect 2
abbrev pub saved_cycles : WorkedScript
saved_cycles = record {
  script = record {
    names = codes "d" ∷ codes "C" ∷ codes "a" ∷ codes "me" ∷ [];
    items = Def (record { name = 0; body = [] })
        ∷ Class (record { name = 1; del = (Some 0); legacy = None }) ∷ Line (MakeInst 2 0) ∷ Line (SetAttr (Name 2) 3 (Name 2)) ∷ Line (Del 2) ∷ Line (Flags 32)
        ∷ Line (Collect (pos 2)) ∷ Line (Flags 0) ∷ Line (DelItem Garbage (pos 0)) ∷ Line (Collect (pos 2)) ∷ [];
  };
  budget = 10000;
  outcome = Ended;
  text = codes "made instance #2\ngc start 2\nenter del #2\nleave\ngc saved #2\ngc stop 2 1 0\ncollected 1\ngc start 2\nfree #2\ngc stop 2 1 0\ncollected 1\nend\n";
}

-- threshold 2; a = list; b = list; c = list; count
abbrev pub an_automatic_collection : WorkedScript
an_automatic_collection = record {
  script = record {
    names = codes "a" ∷ codes "b" ∷ codes "c" ∷ [];
    items = Line (Threshold 2 None None) ∷ Line (MakeList 0 ([])) ∷ Line (MakeList 1 ([]))
        ∷ Line (MakeList 2 ([])) ∷ Line (Count) ∷ [];
  };
  budget = 10000;
  outcome = Ended;
  text = codes "made list #2\nmade list #3\nmade list #4\ngc start 0\ngc stop 0 0 0\ncount 0 1 0\nend\n";
}

-- threshold 0; a = list; b = list; c = list; d = list; e = list; f = list; g = list; h = list; i = list; collect 2; j = list; collect 1; collect 0; threshold 1 0 0; k = list; m = dict; collect 0; n = list; p = dict; count
abbrev pub the_quarter_rule : WorkedScript
the_quarter_rule = record {
  script = record {
    names = codes "a" ∷ codes "b" ∷ codes "c" ∷ codes "d" ∷ codes "e" ∷ codes "f" ∷ codes "g" ∷ codes "h" ∷ codes "i" ∷ codes "j" ∷ codes "k"
        ∷ codes "m" ∷ codes "n" ∷ codes "p" ∷ [];
    items = Line (Threshold 0 None None) ∷ Line (MakeList 0 ([])) ∷ Line (MakeList 1 ([])) ∷ Line (MakeList 2 ([]))
        ∷ Line (MakeList 3 ([])) ∷ Line (MakeList 4 ([])) ∷ Line (MakeList 5 ([])) ∷ Line (MakeList 6 ([])) ∷ Line (MakeList 7 ([])) ∷ Line (MakeList 8 ([]))
        ∷ Line (Collect (pos 2)) ∷ Line (MakeList 9 ([])) ∷ Line (Collect (pos 1)) ∷ Line (Collect (pos 0)) ∷ Line (Threshold 1 (Some 0) (Some 0))
        ∷ Line (MakeList 10 ([])) ∷ Line (MakeDict 11) ∷ Line (Collect (pos 0)) ∷ Line (MakeList 12 ([])) ∷ Line (MakeDict 13) ∷ Line (Count) ∷ [];
  };
  budget = 10000;
  outcome = Ended;
  text = codes "made list #2\nmade list #3\nmade list #4\nmade list #5\nmade list #6\nmade list #7\nmade list #8\nmade list #9\nmade list #10\ngc start 2\ngc stop 2 0 0\ncollected 0\nmade list #11\ngc start 1\ngc stop 1 0 0\ncollected 0\ngc start 0\ngc stop 0 0 0\ncollected 0\nmade list #12\nmade dict #13\ngc start 1\ngc stop 1 0 0\ngc start 0\ngc stop 0 0 0\ncollected 0\nmade list #14\nmade dict #15\ngc start 2\ngc stop 2 0 0\ncount 0 0 0\nend\n";
}

-- d = dict; tracked d; l = list; put d 1 l; tracked d; drop d 1; tracked d; t = tuple 1 2; u = tuple t; collect; tracked d; tracked t; collect; tracked u
abbrev pub tracking : WorkedScript
tracking = record {
  script = record {
    names = codes "d" ∷ codes "l" ∷ codes "t" ∷ codes "u" ∷ [];
    items = Line (MakeDict 0) ∷ Line (Tracked (Name 0)) ∷ Line (MakeList 1 ([]))
        ∷ Line (Put (Name 0) (IntWord (pos 1)) (Name 1)) ∷ Line (Tracked (Name 0)) ∷ Line (Remove (Name 0) (IntWord (pos 1))) ∷ Line (Tracked (Name 0))
        ∷ Line (MakeTuple 2 ((IntWord (pos 1)) ∷ (IntWord (pos 2)) ∷ [])) ∷ Line (MakeTuple 3 ((Name 2) ∷ [])) ∷ Line (Collect (pos 2)) ∷ Line (Tracked (Name 0))
        ∷ Line (Tracked (Name 2)) ∷ Line (Collect (pos 2)) ∷ Line (Tracked (Name 3)) ∷ [];
  };
  budget = 10000;
  outcome = Ended;
  text = codes "made dict #2\ntracked no\nmade list #3\ntracked yes\ntracked yes\nmade tuple #4\nmade tuple #5\ngc start 2\ngc stop 2 0 0\ncollected 0\ntracked no\ntracked no\ngc start 2\ngc stop 2 0 0\ncollected 0\ntracked no\nend\n";
}

-- def cb; end; def d; n = attr self other; w = ref n f; del n; end; class C del=d; class D; f = func cb; a = new C; b = new D; setattr a other b; setattr a me a; del a; del b; collect 2
abbrev pub a_weak_reference_made_by_a_finalizer : WorkedScript
a_weak_reference_made_by_a_finalizer = record {
  script = record {
    names = codes "cb" ∷ codes "d" ∷ codes "n" ∷ codes "other" ∷ codes "w" ∷ codes "f" ∷ codes "C" ∷ codes "D" ∷ codes "a" ∷ codes "b"
        ∷ codes "me" ∷ [];
    items = Def (record { name = 0; body = [] }) ∷ Def (record {
      name = 1;
      body = Attr 2 SelfLocal 3 ∷ MakeRef 4 (Name 2) (Name 5) ∷ Del 2
          ∷ [];
    }) ∷ Class (record { name = 6; del = (Some 1); legacy = None }) ∷ Class (record { name = 7; del = None; legacy = None }) ∷ Line (MakeFunc 5 0 ([]))
        ∷ Line (MakeInst 8 0) ∷ Line (MakeInst 9 1) ∷ Line (SetAttr (Name 8) 3 (Name 9)) ∷ Line (SetAttr (Name 8) 10 (Name 8)) ∷ Line (Del 8) ∷ Line (Del 9)
        ∷ Line (Collect (pos 2)) ∷ [];
  };
  budget = 10000;
  outcome = Ended;
  text = codes "made function #2\nmade instance #3\nmade instance #4\ngc start 2\nenter del #3\nmade weakref #5\nleave\ncleared #5\nfree #4\nfree #3\ngc stop 2 2 0\ncollected 2\nend\n";
}

-- def cb; end; def d; x = deref w; n = attr self other; w = ref n f; del n; end; class C del=d; class D; f = func cb; a = new C; b = new D; setattr a other b; w = ref b; setattr a me a; del a; del b; collect 2
abbrev pub dereferenced_before_it_is_made : WorkedScript
dereferenced_before_it_is_made = record {
  script = record {
    names = codes "cb" ∷ codes "d" ∷ codes "x" ∷ codes "w" ∷ codes "n" ∷ codes "other" ∷ codes "f" ∷ codes "C" ∷ codes "D" ∷ codes "a"
        ∷ codes "b" ∷ codes "me" ∷ [];
    items = Def (record { name = 0; body = [] }) ∷ Def (record {
      name = 1;
      body = Deref 2 (Name 3) ∷ Attr 4 SelfLocal 5
          ∷ MakeRef 3 (Name 4) (Name 6) ∷ Del 4 ∷ [];
    }) ∷ Class (record { name = 7; del = (Some 1); legacy = None }) ∷ Class (record {
      name = 8;
      del = None;
      legacy = None;
    }) ∷ Line (MakeFunc 6 0 ([])) ∷ Line (MakeInst 9 0) ∷ Line (MakeInst 10 1) ∷ Line (SetAttr (Name 9) 5 (Name 10)) ∷ Line (MakeRef 3 (Name 10)
        NoneWord) ∷ Line (SetAttr (Name 9) 11 (Name 9)) ∷ Line (Del 9) ∷ Line (Del 10) ∷ Line (Collect (pos 2)) ∷ [];
  };
  budget = 10000;
  outcome = Ended;
  text = codes "made function #2\nmade instance #3\nmade instance #4\nmade weakref #5\ngc start 2\ncleared #5\nenter del #3\nmade weakref #6\nfree #5\nleave\ncleared #6\nfree #4\nfree #3\ngc stop 2 2 0\ncollected 2\nend\n";
}

-- def cb; end; def d; n = attr self other; w = ref n f; del n; x = deref w; end; class C del=d; class D; f = func cb; a = new C; b = new D; setattr a other b; w = ref b; setattr a me a; del a; del b; collect 2
abbrev pub brought_back_by_a_weak_reference : WorkedScript
brought_back_by_a_weak_reference = record {
  script = record {
    names = codes "cb" ∷ codes "d" ∷ codes "n" ∷ codes "other" ∷ codes "w" ∷ codes "f" ∷ codes "x" ∷ codes "C" ∷ codes "D" ∷ codes "a"
        ∷ codes "b" ∷ codes "me" ∷ [];
    items = Def (record { name = 0; body = [] })
        ∷ Def (record { name = 1; body = Attr 2 SelfLocal 3 ∷ MakeRef 4 (Name 2) (Name 5) ∷ Del 2 ∷ Deref 6 (Name 4) ∷ [] })
        ∷ Class (record { name = 7; del = (Some 1); legacy = None }) ∷ Class (record { name = 8; del = None; legacy = None }) ∷ Line (MakeFunc 5 0 ([]))
        ∷ Line (MakeInst 9 0) ∷ Line (MakeInst 10 1) ∷ Line (SetAttr (Name 9) 3 (Name 10)) ∷ Line (MakeRef 4 (Name 10) NoneWord)
        ∷ Line (SetAttr (Name 9) 11 (Name 9)) ∷ Line (Del 9) ∷ Line (Del 10) ∷ Line (Collect (pos 2)) ∷ [];
  };
  budget = 10000;
  outcome = Ended;
  text = codes "made function #2\nmade instance #3\nmade instance #4\nmade weakref #5\ngc start 2\ncleared #5\nenter del #3\nmade weakref #6\nfree #5\nleave\nalive #4\nfree #3\ngc stop 2 1 0\ncollected 1\nend\n";
}

-- def cb; z = list; print 1; end; class C; f = func cb; a = new C; l = list; append l l; setattr a items l; w = ref a f; threshold 4; del l; del a; collect 1
abbrev pub a_collection_inside_a_death : WorkedScript
a_collection_inside_a_death = record {
  script = record {
    names = codes "cb" ∷ codes "z" ∷ codes "C" ∷ codes "f" ∷ codes "a" ∷ codes "l" ∷ codes "items" ∷ codes "w" ∷ [];
    items = Def (record { name = 0; body = MakeList 1 ([]) ∷ Print (IntWord (pos 1)) ∷ [] }) ∷ Class (record { name = 2; del = None; legacy = None })
        ∷ Line (MakeFunc 3 0 ([])) ∷ Line (MakeInst 4 0) ∷ Line (MakeList 5 ([])) ∷ Line (Append (Name 5) (Name 5)) ∷ Line (SetAttr (Name 4) 6 (Name 5))
        ∷ Line (MakeRef 7 (Name 4) (Name 3)) ∷ Line (Threshold 4 None None) ∷ Line (Del 5) ∷ Line (Del 4) ∷ Line (Collect (pos 1)) ∷ [];
  };
  budget = 10000;
  outcome = Ended;
  text = codes "made function #2\nmade instance #3\nmade list #4\nmade weakref #5\ncleared #5\nenter callback #5\nmade list #6\ngc start 0\ngc stop 0 0 0\nvalue 1\nleave\nfree #3\ngc start 1\nfree #4\ngc stop 1 1 0\ncollected 1\nend\n";
}

-- def cb; collect; append q 1; print 7; end; class C; f = func cb; a = new C; setattr a me a; w = ref a f; del a; collect 2
abbrev pub re_entrance_and_refusal_in_a_callback : WorkedScript
re_entrance_and_refusal_in_a_callback = record {
  script = record {
    names = codes "cb" ∷ codes "q" ∷ codes "C" ∷ codes "f" ∷ codes "a" ∷ codes "me" ∷ codes "w" ∷ [];
    items = Def (record { name = 0; body = Collect (pos 2) ∷ Append (Name 1) (IntWord (pos 1)) ∷ Print (IntWord (pos 7)) ∷ [] })
        ∷ Class (record { name = 2; del = None; legacy = None }) ∷ Line (MakeFunc 3 0 ([])) ∷ Line (MakeInst 4 0) ∷ Line (SetAttr (Name 4) 5 (Name 4))
        ∷ Line (MakeRef 6 (Name 4) (Name 3)) ∷ Line (Del 4) ∷ Line (Collect (pos 2)) ∷ [];
  };
  budget = 10000;
  outcome = Ended;
  text = codes "made function #2\nmade instance #3\nmade weakref #4\ngc start 2\ncleared #4\nenter callback #4\ncollected 0\nrefused 1\nleave\nfree #3\ngc stop 2 1 0\ncollected 1\nend\n";
}

-- a = list; b = list a a; refs a; a = a; refs a
abbrev pub counted_twice : WorkedScript
counted_twice = record {
  script = record {
    names = codes "a" ∷ codes "b" ∷ [];
    items = Line (MakeList 0 ([])) ∷ Line (MakeList 1 ((Name 0) ∷ (Name 0) ∷ [])) ∷ Line (Refs (Name 0))
        ∷ Line (Bind 0 (Name 0)) ∷ Line (Refs (Name 0)) ∷ [];
  };
  budget = 10000;
  outcome = Ended;
  text = codes "made list #2\nmade list #3\nrefs 3\nrefs 3\nend\n";
}

-- class Node; r = new Node; k = list; setattr r kids k; c = new Node; append k c; p = ref r; setattr c parent p; del k; del c; del p; del r; collect
abbrev pub a_tree_with_weak_parents : WorkedScript
a_tree_with_weak_parents = record {
  script = record {
    names = codes "Node" ∷ codes "r" ∷ codes "k" ∷ codes "kids" ∷ codes "c" ∷ codes "p" ∷ codes "parent" ∷ [];
    items = Class (record { name = 0; del = None; legacy = None }) ∷ Line (MakeInst 1 0) ∷ Line (MakeList 2 ([])) ∷ Line (SetAttr (Name 1) 3 (Name 2))
        ∷ Line (MakeInst 4 0) ∷ Line (Append (Name 2) (Name 4)) ∷ Line (MakeRef 5 (Name 1) NoneWord) ∷ Line (SetAttr (Name 4) 6 (Name 5)) ∷ Line (Del 2)
        ∷ Line (Del 4) ∷ Line (Del 5) ∷ Line (Del 1) ∷ Line (Collect (pos 2)) ∷ [];
  };
  budget = 10000;
  outcome = Ended;
  text = codes "made instance #2\nmade list #3\nmade instance #4\nmade weakref #5\ncleared #5\nfree #5\nfree #4\nfree #3\nfree #2\ngc start 2\ngc stop 2 0 0\ncollected 0\nend\n";
}

-- class Node; r = new Node; k = list; setattr r kids k; c = new Node; append k c; setattr c parent r; del k; del c; del r; collect
abbrev pub a_tree_with_strong_parents : WorkedScript
a_tree_with_strong_parents = record {
  script = record {
    names = codes "Node" ∷ codes "r" ∷ codes "k" ∷ codes "kids" ∷ codes "c" ∷ codes "parent" ∷ [];
    items = Class (record { name = 0; del = None; legacy = None }) ∷ Line (MakeInst 1 0) ∷ Line (MakeList 2 ([])) ∷ Line (SetAttr (Name 1) 3 (Name 2))
        ∷ Line (MakeInst 4 0) ∷ Line (Append (Name 2) (Name 4)) ∷ Line (SetAttr (Name 4) 5 (Name 1)) ∷ Line (Del 2) ∷ Line (Del 4) ∷ Line (Del 1)
        ∷ Line (Collect (pos 2)) ∷ [];
  };
  budget = 10000;
  outcome = Ended;
  text = codes "made instance #2\nmade list #3\nmade instance #4\ngc start 2\nfree #4\nfree #3\nfree #2\ngc stop 2 3 0\ncollected 3\nend\n";
}

-- class C; a = list 1; x = item a 1; append 3 a; put a 1 2; collect 7; x = deref a; call a; d = dict; put d a 1; x = get d 5; o = new C; x = attr o n; append garbage 1; del x
abbrev pub refusals : WorkedScript
refusals = record {
  script = record {
    names = codes "C" ∷ codes "a" ∷ codes "x" ∷ codes "d" ∷ codes "o" ∷ codes "n" ∷ [];
    items = Class (record { name = 0; del = None; legacy = None }) ∷ Line (MakeList 1 ((IntWord (pos 1)) ∷ [])) ∷ Line (ItemOf 2 (Name 1) (pos 1))
        ∷ Line (Append (IntWord (pos 3)) (Name 1)) ∷ Line (Put (Name 1) (IntWord (pos 1)) (IntWord (pos 2))) ∷ Line (Collect (pos 7)) ∷ Line (Deref 2 (Name 1))
        ∷ Line (Call (Name 1)) ∷ Line (MakeDict 3) ∷ Line (Put (Name 3) (Name 1) (IntWord (pos 1))) ∷ Line (Get 2 (Name 3) (IntWord (pos 5)))
        ∷ Line (MakeInst 4 0) ∷ Line (Attr 2 (Name 4) 5) ∷ Line (Append Garbage (IntWord (pos 1))) ∷ Line (Del 2) ∷ [];
  };
  budget = 10000;
  outcome = Ended;
  text = codes "made list #2\nrefused 3\nrefused 2\nrefused 2\nrefused 8\nrefused 6\nrefused 7\nmade dict #3\nrefused 9\nrefused 4\nmade instance #4\nrefused 5\nrefused 2\nrefused 1\nend\n";
}

-- def cb; del w; end; class C; f = func cb; a = new C; setattr a me a; w = ref a f; del a; collect 2
abbrev pub a_weak_reference_that_dies_after_its_callback : WorkedScript
a_weak_reference_that_dies_after_its_callback = record {
  script = record {
    names = codes "cb" ∷ codes "w" ∷ codes "C" ∷ codes "f" ∷ codes "a" ∷ codes "me" ∷ [];
    items = Def (record { name = 0; body = Del 1 ∷ [] })
        ∷ Class (record { name = 2; del = None; legacy = None }) ∷ Line (MakeFunc 3 0 ([])) ∷ Line (MakeInst 4 0) ∷ Line (SetAttr (Name 4) 5 (Name 4))
        ∷ Line (MakeRef 1 (Name 4) (Name 3)) ∷ Line (Del 4) ∷ Line (Collect (pos 2)) ∷ [];
  };
  budget = 10000;
  outcome = Ended;
  text = codes "made function #2\nmade instance #3\nmade weakref #4\ngc start 2\ncleared #4\nenter callback #4\nleave\nfree #4\nfree #3\ngc stop 2 2 0\ncollected 2\nend\n";
}

-- def p; print c0; quit none; print 2; end; a = list; f = func p a; del a; call f; del f
abbrev pub cells : WorkedScript
cells = record {
  script = record {
    names = codes "p" ∷ codes "a" ∷ codes "f" ∷ [];
    items = Def (record {
      name = 0;
      body = Print (Cell 0) ∷ Quit NoneWord
          ∷ Print (IntWord (pos 2)) ∷ [];
    }) ∷ Line (MakeList 1 ([])) ∷ Line (MakeFunc 2 0 ((Name 1) ∷ [])) ∷ Line (Del 1) ∷ Line (Call (Name 2)) ∷ Line (Del 2)
        ∷ [];
  };
  budget = 10000;
  outcome = Ended;
  text = codes "made list #2\nmade function #3\nenter call #3\nvalue #2\nleave\nfree #2\nfree #3\nend\n";
}

-- a = list; append a a; append a a; del a; collect; gens
abbrev pub held_twice_by_itself : WorkedScript
held_twice_by_itself = record {
  script = record {
    names = codes "a" ∷ [];
    items = Line (MakeList 0 ([])) ∷ Line (Append (Name 0) (Name 0)) ∷ Line (Append (Name 0) (Name 0)) ∷ Line (Del 0)
        ∷ Line (Collect (pos 2)) ∷ Line (Gens) ∷ [];
  };
  budget = 10000;
  outcome = Ended;
  text = codes "made list #2\ngc start 2\nfree #2\ngc stop 2 1 0\ncollected 1\ngens 0 0 0 0\nend\n";
}

-- def d; call g; end; def h; print 1; end; class C del=d; g = func h; a = new C; del a; finalized a
abbrev pub a_call_inside_a_finalizer : WorkedScript
a_call_inside_a_finalizer = record {
  script = record {
    names = codes "d" ∷ codes "g" ∷ codes "h" ∷ codes "C" ∷ codes "a" ∷ [];
    items = Def (record { name = 0; body = Call (Name 1) ∷ [] })
        ∷ Def (record { name = 2; body = Print (IntWord (pos 1)) ∷ [] }) ∷ Class (record { name = 3; del = (Some 0); legacy = None }) ∷ Line (MakeFunc 1 1 ([]))
        ∷ Line (MakeInst 4 0) ∷ Line (Del 4) ∷ Line (Finalized (Name 4)) ∷ [];
  };
  budget = 10000;
  outcome = Ended;
  text = codes "made function #2\nmade instance #3\nenter del #3\nenter call #2\nvalue 1\nleave\nleave\nfree #3\nrefused 1\nend\n";
}

-- def p; print 1; end; class C; f = func p; a = new C; w = ref a f; del w; del a
abbrev pub a_weak_reference_that_dies_first : WorkedScript
a_weak_reference_that_dies_first = record {
  script = record {
    names = codes "p" ∷ codes "C" ∷ codes "f" ∷ codes "a" ∷ codes "w" ∷ [];
    items = Def (record { name = 0; body = Print (IntWord (pos 1)) ∷ [] }) ∷ Class (record { name = 1; del = None; legacy = None }) ∷ Line (MakeFunc 2 0 ([]))
        ∷ Line (MakeInst 3 0) ∷ Line (MakeRef 4 (Name 3) (Name 2)) ∷ Line (Del 4) ∷ Line (Del 3) ∷ [];
  };
  budget = 10000;
  outcome = Ended;
  text = codes "made function #2\nmade instance #3\nmade weakref #4\nfree #4\nfree #3\nend\n";
}

-- def cb; print 2; end; def d; w = ref self f; end; class C del=d; f = func cb; a = new C; del a; x = deref w; print x
abbrev pub a_weak_reference_that_the_finalizer_makes : WorkedScript
a_weak_reference_that_the_finalizer_makes = record {
  script = record {
    names = codes "cb" ∷ codes "d" ∷ codes "w" ∷ codes "f" ∷ codes "C" ∷ codes "a" ∷ codes "x" ∷ [];
    items = Def (record { name = 0; body = Print (IntWord (pos 2)) ∷ [] }) ∷ Def (record { name = 1; body = MakeRef 2 SelfLocal (Name 3) ∷ [] })
        ∷ Class (record { name = 4; del = (Some 1); legacy = None }) ∷ Line (MakeFunc 3 0 ([])) ∷ Line (MakeInst 5 0) ∷ Line (Del 5) ∷ Line (Deref 6 (Name 2))
        ∷ Line (Print (Name 6)) ∷ [];
  };
  budget = 10000;
  outcome = Ended;
  text = codes "made function #2\nmade instance #3\nenter del #3\nmade weakref #4\nleave\ncleared #4\nenter callback #4\nvalue 2\nleave\nfree #3\nvalue none\nend\n";
}

-- def p; end; class C legacy=p; debug stats uncollectable; a = new C; l = list a; setattr a l l; del a; del l; collect 2
abbrev pub debug_lines_of_legacy_garbage : WorkedScript
debug_lines_of_legacy_garbage = record {
  script = record {
    names = codes "p" ∷ codes "C" ∷ codes "a" ∷ codes "l" ∷ [];
    items = Def (record { name = 0; body = [] })
        ∷ Class (record { name = 1; del = None; legacy = (Some 0) }) ∷ Line (Flags 5) ∷ Line (MakeInst 2 0) ∷ Line (MakeList 3 ((Name 2) ∷ []))
        ∷ Line (SetAttr (Name 2) 3 (Name 3)) ∷ Line (Del 2) ∷ Line (Del 3) ∷ Line (Collect (pos 2)) ∷ [];
  };
  budget = 10000;
  outcome = Ended;
  text = codes "made instance #2\nmade list #3\ngc start 2\ngens 2 0 0 0\ngc uncollectable #2\ngc uncollectable #3\ngc saved #2\ngc stop 2 0 2\ncollected 2\nend\n";
}

-- a = list; append a a; del a; freeze; gens; collect; unfreeze; collect
abbrev pub freezing : WorkedScript
freezing = record {
  script = record {
    names = codes "a" ∷ [];
    items = Line (MakeList 0 ([])) ∷ Line (Append (Name 0) (Name 0)) ∷ Line (Del 0) ∷ Line (Freeze) ∷ Line (Gens)
        ∷ Line (Collect (pos 2)) ∷ Line (Unfreeze) ∷ Line (Collect (pos 2)) ∷ [];
  };
  budget = 10000;
  outcome = Ended;
  text = codes "made list #2\ngens 0 0 0 1\ngc start 2\ngc stop 2 0 0\ncollected 0\ngc start 2\nfree #2\ngc stop 2 1 0\ncollected 1\nend\n";
}

-- disable; threshold 1; a = list; b = list; c = list; count; enable; print 1
abbrev pub switched_off_and_on : WorkedScript
switched_off_and_on = record {
  script = record {
    names = codes "a" ∷ codes "b" ∷ codes "c" ∷ [];
    items = Line (Disable) ∷ Line (Threshold 1 None None) ∷ Line (MakeList 0 ([]))
        ∷ Line (MakeList 1 ([])) ∷ Line (MakeList 2 ([])) ∷ Line (Count) ∷ Line (Enable) ∷ Line (Print (IntWord (pos 1))) ∷ [];
  };
  budget = 10000;
  outcome = Ended;
  text = codes "made list #2\nmade list #3\nmade list #4\ncount 3 0 0\ngc start 0\ngc stop 0 0 0\nvalue 1\nend\n";
}

-- def d; x = deref w; end; class C del=d; class D; a = new C; b = new D; w = ref b; setattr a me a; setattr a other b; del b; del a; collect 2
abbrev pub a_referent_that_the_weak_phase_cleared : WorkedScript
a_referent_that_the_weak_phase_cleared = record {
  script = record {
    names = codes "d" ∷ codes "x" ∷ codes "w" ∷ codes "C" ∷ codes "D" ∷ codes "a" ∷ codes "b" ∷ codes "me" ∷ codes "other" ∷ [];
    items = Def (record { name = 0; body = Deref 1 (Name 2) ∷ [] }) ∷ Class (record { name = 3; del = (Some 0); legacy = None })
        ∷ Class (record { name = 4; del = None; legacy = None }) ∷ Line (MakeInst 5 0) ∷ Line (MakeInst 6 1) ∷ Line (MakeRef 2 (Name 6) NoneWord)
        ∷ Line (SetAttr (Name 5) 7 (Name 5)) ∷ Line (SetAttr (Name 5) 8 (Name 6)) ∷ Line (Del 6) ∷ Line (Del 5) ∷ Line (Collect (pos 2)) ∷ [];
  };
  budget = 10000;
  outcome = Ended;
  text = codes "made instance #2\nmade instance #3\nmade weakref #4\ngc start 2\ncleared #4\nenter del #2\nleave\nfree #3\nfree #2\ngc stop 2 2 0\ncollected 2\nend\n";
}

-- budget 1; def d; end; class C del=d; a = new C; del a; b = new C; del b
abbrev pub a_spent_budget : WorkedScript
a_spent_budget = record {
  script = record {
    names = codes "d" ∷ codes "C" ∷ codes "a" ∷ codes "b" ∷ [];
    items = Budget 1 ∷ Def (record { name = 0; body = [] })
        ∷ Class (record { name = 1; del = (Some 0); legacy = None }) ∷ Line (MakeInst 2 0) ∷ Line (Del 2) ∷ Line (MakeInst 3 0) ∷ Line (Del 3) ∷ [];
  };
  budget = 1;
  outcome = BudgetIsSpent;
  text = codes "made instance #2\nenter del #2\nleave\nfree #2\nmade instance #3\nbudget spent\n";
}

-- a = list 1; b = list; setitem a 0 b; del b; setitem a 0 2; class C; o = new C; setattr o n a; del a; delattr o n; setitem garbage 0 1; delattr o n
abbrev pub replaced_items_and_attributes : WorkedScript
replaced_items_and_attributes = record {
  script = record {
    names = codes "a" ∷ codes "b" ∷ codes "C" ∷ codes "o" ∷ codes "n" ∷ [];
    items = Line (MakeList 0 ((IntWord (pos 1)) ∷ []))
        ∷ Line (MakeList 1 ([])) ∷ Line (SetItem (Name 0) (pos 0) (Name 1)) ∷ Line (Del 1) ∷ Line (SetItem (Name 0) (pos 0) (IntWord (pos 2)))
        ∷ Class (record { name = 2; del = None; legacy = None }) ∷ Line (MakeInst 3 0) ∷ Line (SetAttr (Name 3) 4 (Name 0)) ∷ Line (Del 0)
        ∷ Line (DelAttr (Name 3) 4) ∷ Line (SetItem Garbage (pos 0) (IntWord (pos 1))) ∷ Line (DelAttr (Name 3) 4) ∷ [];
  };
  budget = 10000;
  outcome = Ended;
  text = codes "made list #2\nmade list #3\nfree #3\nmade instance #4\nfree #2\nrefused 2\nrefused 5\nend\n";
}

-- d = dict; put d 1 'a; x = get d 1; print x; put d 1 'b; put d 2 'c; x = get d 1; print x; drop d 1; x = get d 1; x = get d 2; print x
abbrev pub keys_of_a_dictionary : WorkedScript
keys_of_a_dictionary = record {
  script = record {
    names = codes "d" ∷ codes "a" ∷ codes "x" ∷ codes "b" ∷ codes "c" ∷ [];
    items = Line (MakeDict 0)
        ∷ Line (Put (Name 0) (IntWord (pos 1)) (StrWord 1)) ∷ Line (Get 2 (Name 0) (IntWord (pos 1))) ∷ Line (Print (Name 2))
        ∷ Line (Put (Name 0) (IntWord (pos 1)) (StrWord 3)) ∷ Line (Put (Name 0) (IntWord (pos 2)) (StrWord 4)) ∷ Line (Get 2 (Name 0) (IntWord (pos 1)))
        ∷ Line (Print (Name 2)) ∷ Line (Remove (Name 0) (IntWord (pos 1))) ∷ Line (Get 2 (Name 0) (IntWord (pos 1))) ∷ Line (Get 2 (Name 0) (IntWord (pos 2)))
        ∷ Line (Print (Name 2)) ∷ [];
  };
  budget = 10000;
  outcome = Ended;
  text = codes "made dict #2\nvalue 'a\nvalue 'b\nrefused 4\nvalue 'c\nend\n";
}

-- def p; end; class C legacy=p; a = new C; del a
abbrev pub a_legacy_finalizer_by_count : WorkedScript
a_legacy_finalizer_by_count = record {
  script = record {
    names = codes "p" ∷ codes "C" ∷ codes "a" ∷ [];
    items = Def (record { name = 0; body = [] })
        ∷ Class (record { name = 1; del = None; legacy = (Some 0) }) ∷ Line (MakeInst 2 0) ∷ Line (Del 2) ∷ [];
  };
  budget = 10000;
  outcome = Ended;
  text = codes "made instance #2\nenter legacy #2\nleave\nfree #2\nend\n";
}

-- def p; x = self; end; class C legacy=p; a = new C; del a; finalized x; del x; gens
abbrev pub brought_back_by_a_legacy_finalizer : WorkedScript
brought_back_by_a_legacy_finalizer = record {
  script = record {
    names = codes "p" ∷ codes "x" ∷ codes "C" ∷ codes "a" ∷ [];
    items = Def (record { name = 0; body = Bind 1 SelfLocal ∷ [] })
        ∷ Class (record { name = 2; del = None; legacy = (Some 0) }) ∷ Line (MakeInst 3 0) ∷ Line (Del 3) ∷ Line (Finalized (Name 1)) ∷ Line (Del 1) ∷ Line (Gens)
        ∷ [];
  };
  budget = 10000;
  outcome = Ended;
  text = codes "made instance #2\nenter legacy #2\nleave\nalive #2\nfinalized no\nenter legacy #2\nleave\nalive #2\ngens 1 0 0 0\nend\n";
}

-- def cb; end; def p; w = ref self f; end; class C legacy=p; f = func cb; a = new C; del a; x = deref w; print x
abbrev pub late_weak_references : WorkedScript
late_weak_references = record {
  script = record {
    names = codes "cb" ∷ codes "p" ∷ codes "w" ∷ codes "f" ∷ codes "C" ∷ codes "a" ∷ codes "x" ∷ [];
    items = Def (record { name = 0; body = [] }) ∷ Def (record { name = 1; body = MakeRef 2 SelfLocal (Name 3) ∷ [] })
        ∷ Class (record { name = 4; del = None; legacy = (Some 1) }) ∷ Line (MakeFunc 3 0 ([])) ∷ Line (MakeInst 5 0) ∷ Line (Del 5) ∷ Line (Deref 6 (Name 2))
        ∷ Line (Print (Name 6)) ∷ [];
  };
  budget = 10000;
  outcome = Ended;
  text = codes "made function #2\nmade instance #3\nenter legacy #3\nmade weakref #4\nleave\ncleared #4\nfree #3\nvalue none\nend\n";
}

-- debug collectable; a = list; append a a; del a; collect
abbrev pub debug_lines_of_collectable_garbage : WorkedScript
debug_lines_of_collectable_garbage = record {
  script = record { names = codes "a" ∷ []; items = Line (Flags 2) ∷ Line (MakeList 0 ([])) ∷ Line (Append (Name 0) (Name 0)) ∷ Line (Del 0) ∷ Line (Collect (pos 2)) ∷ [] };
  budget = 10000;
  outcome = Ended;
  text = codes "made list #2\ngc start 2\ngc collectable #2\nfree #2\ngc stop 2 1 0\ncollected 1\nend\n";
}

-- a = list; quit none; del a
abbrev pub stopped_at_the_top : WorkedScript
stopped_at_the_top = record {
  script = record { names = codes "a" ∷ []; items = Line (MakeList 0 ([])) ∷ Line (Quit NoneWord) ∷ Line (Del 0) ∷ [] };
  budget = 10000;
  outcome = Ended;
  text = codes "made list #2\nend\n";
}

-- def cb; print ref; print self; print c0; end; def d; print self; print ref; end; class C del=d; f = func cb 5; a = new C; w = ref a f; del a
abbrev pub locals_of_frames : WorkedScript
locals_of_frames = record {
  script = record {
    names = codes "cb" ∷ codes "d" ∷ codes "C" ∷ codes "f" ∷ codes "a" ∷ codes "w" ∷ [];
    items = Def (record { name = 0; body = Print WeakLocal ∷ Print SelfLocal ∷ Print (Cell 0) ∷ [] })
        ∷ Def (record { name = 1; body = Print SelfLocal ∷ Print WeakLocal ∷ [] }) ∷ Class (record { name = 2; del = (Some 1); legacy = None })
        ∷ Line (MakeFunc 3 0 ((IntWord (pos 5)) ∷ [])) ∷ Line (MakeInst 4 0) ∷ Line (MakeRef 5 (Name 4) (Name 3)) ∷ Line (Del 4) ∷ [];
  };
  budget = 10000;
  outcome = Ended;
  text = codes "made function #2\nmade instance #3\nmade weakref #4\nenter del #3\nvalue #3\nrefused 1\nleave\ncleared #4\nenter callback #4\nvalue #4\nrefused 1\nleave\nfree #3\nend\n";
}

-- def p; print x; print 2; end; f = func p; call f; print 3
abbrev pub a_refusal_ends_a_frame : WorkedScript
a_refusal_ends_a_frame = record {
  script = record {
    names = codes "p" ∷ codes "x" ∷ codes "f" ∷ [];
    items = Def (record { name = 0; body = Print (Name 1) ∷ Print (IntWord (pos 2)) ∷ [] })
        ∷ Line (MakeFunc 2 0 ([])) ∷ Line (Call (Name 2)) ∷ Line (Print (IntWord (pos 3))) ∷ [];
  };
  budget = 10000;
  outcome = Ended;
  text = codes "made function #2\nenter call #2\nrefused 1\nleave\nvalue 3\nend\n";
}

-- profile 2; def d; x = deref w; end; class C del=d; class D; a = new C; b = new D; w = ref b; setattr a me a; setattr a other b; del b; del a; collect 2
abbrev pub kept_by_a_late_weak_reference : WorkedScript
kept_by_a_late_weak_reference = record {
  script = record {
    names = codes "d" ∷ codes "x" ∷ codes "w" ∷ codes "C" ∷ codes "D" ∷ codes "a" ∷ codes "b" ∷ codes "me" ∷ codes "other" ∷ [];
    items = Profile 2 ∷ Def (record { name = 0; body = Deref 1 (Name 2) ∷ [] }) ∷ Class (record { name = 3; del = (Some 0); legacy = None })
        ∷ Class (record { name = 4; del = None; legacy = None }) ∷ Line (MakeInst 5 0) ∷ Line (MakeInst 6 1) ∷ Line (MakeRef 2 (Name 6) NoneWord)
        ∷ Line (SetAttr (Name 5) 7 (Name 5)) ∷ Line (SetAttr (Name 5) 8 (Name 6)) ∷ Line (Del 6) ∷ Line (Del 5) ∷ Line (Collect (pos 2)) ∷ [];
  };
  budget = 10000;
  outcome = Ended;
  text = codes "made instance #2\nmade instance #3\nmade weakref #4\ngc start 2\nenter del #2\nleave\nalive #3\nfree #2\ngc stop 2 1 0\ncollected 1\nend\n";
}

-- def d; x = deref w; end; class C del=d; class D; a = new C; b = new D; w = ref b; setattr a me a; setattr a other b; del b; del a; collect 2
abbrev pub lost_by_an_early_weak_reference : WorkedScript
lost_by_an_early_weak_reference = record {
  script = record {
    names = codes "d" ∷ codes "x" ∷ codes "w" ∷ codes "C" ∷ codes "D" ∷ codes "a" ∷ codes "b" ∷ codes "me" ∷ codes "other" ∷ [];
    items = Def (record { name = 0; body = Deref 1 (Name 2) ∷ [] }) ∷ Class (record { name = 3; del = (Some 0); legacy = None })
        ∷ Class (record { name = 4; del = None; legacy = None }) ∷ Line (MakeInst 5 0) ∷ Line (MakeInst 6 1) ∷ Line (MakeRef 2 (Name 6) NoneWord)
        ∷ Line (SetAttr (Name 5) 7 (Name 5)) ∷ Line (SetAttr (Name 5) 8 (Name 6)) ∷ Line (Del 6) ∷ Line (Del 5) ∷ Line (Collect (pos 2)) ∷ [];
  };
  budget = 10000;
  outcome = Ended;
  text = codes "made instance #2\nmade instance #3\nmade weakref #4\ngc start 2\ncleared #4\nenter del #2\nleave\nfree #3\nfree #2\ngc stop 2 2 0\ncollected 2\nend\n";
}

-- profile 2; class C; a = new C; w = ref a; setattr a me a; setattr a w w; del w; del a; collect 2
abbrev pub a_condemned_weak_reference_is_cleared_late : WorkedScript
a_condemned_weak_reference_is_cleared_late = record {
  script = record {
    names = codes "C" ∷ codes "a" ∷ codes "w" ∷ codes "me" ∷ [];
    items = Profile 2 ∷ Class (record { name = 0; del = None; legacy = None })
        ∷ Line (MakeInst 1 0) ∷ Line (MakeRef 2 (Name 1) NoneWord) ∷ Line (SetAttr (Name 1) 3 (Name 1)) ∷ Line (SetAttr (Name 1) 2 (Name 2)) ∷ Line (Del 2)
        ∷ Line (Del 1) ∷ Line (Collect (pos 2)) ∷ [];
  };
  budget = 10000;
  outcome = Ended;
  text = codes "made instance #2\nmade weakref #3\ngc start 2\ncleared #3\nfree #3\nfree #2\ngc stop 2 2 0\ncollected 2\nend\n";
}

-- shutdown; a = list; b = list a; c = list; append c c; del c
abbrev pub shut_down : WorkedScript
shut_down = record {
  script = record {
    names = codes "a" ∷ codes "b" ∷ codes "c" ∷ [];
    items = Shutdown ∷ Line (MakeList 0 ([])) ∷ Line (MakeList 1 ((Name 0) ∷ []))
        ∷ Line (MakeList 2 ([])) ∷ Line (Append (Name 2) (Name 2)) ∷ Line (Del 2) ∷ [];
  };
  budget = 10000;
  outcome = Ended;
  text = codes "made list #2\nmade list #3\nmade list #4\nfree #3\nfree #2\ngc start 2\nfree #4\ngc stop 2 1 0\nleft 0\nend\n";
}

-- shutdown; def d; x = self; end; class C del=d; a = new C
abbrev pub a_name_is_bound_while_it_shuts_down : WorkedScript
a_name_is_bound_while_it_shuts_down = record {
  script = record {
    names = codes "d" ∷ codes "x" ∷ codes "C" ∷ codes "a" ∷ [];
    items = Shutdown ∷ Def (record { name = 0; body = Bind 1 SelfLocal ∷ [] })
        ∷ Class (record { name = 2; del = (Some 0); legacy = None }) ∷ Line (MakeInst 3 0) ∷ [];
  };
  budget = 10000;
  outcome = Ended;
  text = codes "made instance #2\nenter del #2\nleave\nalive #2\nfree #2\ngc start 2\ngc stop 2 0 0\nleft 0\nend\n";
}

-- shutdown; def d; x = self; end; class C del=d; a = new C; setattr a me a
abbrev pub what_the_last_collection_binds_is_left : WorkedScript
what_the_last_collection_binds_is_left = record {
  script = record {
    names = codes "d" ∷ codes "x" ∷ codes "C" ∷ codes "a" ∷ codes "me" ∷ [];
    items = Shutdown
        ∷ Def (record { name = 0; body = Bind 1 SelfLocal ∷ [] }) ∷ Class (record { name = 2; del = (Some 0); legacy = None }) ∷ Line (MakeInst 3 0)
        ∷ Line (SetAttr (Name 3) 4 (Name 3)) ∷ [];
  };
  budget = 10000;
  outcome = Ended;
  text = codes "made instance #2\ngc start 2\nenter del #2\nleave\nalive #2\ngc stop 2 0 0\nleft 1\nend\n";
}

-- a = list; b = list a; referrers a; referents b
abbrev pub referrers_and_referents : WorkedScript
referrers_and_referents = record {
  script = record { names = codes "a" ∷ codes "b" ∷ []; items = Line (MakeList 0 ([])) ∷ Line (MakeList 1 ((Name 0) ∷ [])) ∷ Line (Referrers (Name 0)) ∷ Line (Referents (Name 1)) ∷ [] };
  budget = 10000;
  outcome = Ended;
  text = codes "made list #2\nmade list #3\nreferrer #3\nlisted 1\nreferent #2\nlisted 1\nend\n";
}

-- def cb; why q; end; class C; f = func cb; q = list; a = new C; setattr a me a; w = ref a f; del a; collect 2
abbrev pub no_inspection_in_a_collection : WorkedScript
no_inspection_in_a_collection = record {
  script = record {
    names = codes "cb" ∷ codes "q" ∷ codes "C" ∷ codes "f" ∷ codes "a" ∷ codes "me" ∷ codes "w" ∷ [];
    items = Def (record { name = 0; body = Why 1 ∷ [] }) ∷ Class (record { name = 2; del = None; legacy = None }) ∷ Line (MakeFunc 3 0 ([]))
        ∷ Line (MakeList 1 ([])) ∷ Line (MakeInst 4 0) ∷ Line (SetAttr (Name 4) 5 (Name 4)) ∷ Line (MakeRef 6 (Name 4) (Name 3)) ∷ Line (Del 4)
        ∷ Line (Collect (pos 2)) ∷ [];
  };
  budget = 10000;
  outcome = Ended;
  text = codes "made function #2\nmade list #3\nmade instance #4\nmade weakref #5\ngc start 2\ncleared #5\nenter callback #5\nrefused 13\nleave\nfree #4\ngc stop 2 1 0\ncollected 1\nend\n";
}

-- all of them
abbrev pub worked_scripts : List WorkedScript
worked_scripts = an_empty_script ∷ made_and_freed ∷ a_list_that_holds_itself ∷ brought_back_by_its_finalizer ∷ a_name_bound_twice ∷ deaths_in_depth
    ∷ refused_kinds ∷ key_and_value_of_a_dying_dictionary ∷ printed_values ∷ brought_back_from_a_death_by_count ∷ callbacks_newest_first
    ∷ condemned_weak_references_call_nothing_back ∷ a_cycle_through_a_tuple ∷ a_cycle_that_survived ∷ a_legacy_cycle ∷ saved_cycles ∷ an_automatic_collection
    ∷ the_quarter_rule ∷ tracking ∷ a_weak_reference_made_by_a_finalizer ∷ dereferenced_before_it_is_made ∷ brought_back_by_a_weak_reference
    ∷ a_collection_inside_a_death ∷ re_entrance_and_refusal_in_a_callback ∷ counted_twice ∷ a_tree_with_weak_parents ∷ a_tree_with_strong_parents ∷ refusals
    ∷ a_weak_reference_that_dies_after_its_callback ∷ cells ∷ held_twice_by_itself ∷ a_call_inside_a_finalizer ∷ a_weak_reference_that_dies_first
    ∷ a_weak_reference_that_the_finalizer_makes ∷ debug_lines_of_legacy_garbage ∷ freezing ∷ switched_off_and_on ∷ a_referent_that_the_weak_phase_cleared
    ∷ a_spent_budget ∷ replaced_items_and_attributes ∷ keys_of_a_dictionary ∷ a_legacy_finalizer_by_count ∷ brought_back_by_a_legacy_finalizer
    ∷ late_weak_references ∷ debug_lines_of_collectable_garbage ∷ stopped_at_the_top ∷ locals_of_frames ∷ a_refusal_ends_a_frame ∷ kept_by_a_late_weak_reference
    ∷ lost_by_an_early_weak_reference ∷ a_condemned_weak_reference_is_cleared_late ∷ shut_down ∷ a_name_is_bound_while_it_shuts_down
    ∷ what_the_last_collection_binds_is_left ∷ referrers_and_referents ∷ no_inspection_in_a_collection ∷ []
