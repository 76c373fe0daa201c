-- Numbers are given out in order: the counts of a configuration are the numbers of lines that made a qubit, a channel
-- or a process, so that every line of a making names a new one.
use Prim.Native.Nat.{ℕ, suc, ◌+◌}
use mathlib.Core.Path.{◌≡◌, refl, sym, ◌∙◌, ap, subst}
use mathlib.Core.Logic.{◌≢◌}
use mathlib.Core.Bool.{Bool, true, false, cond}
use mathlib.Core.List.{List, [], ◌∷◌, ◌++◌, map, append_assoc, append-nil}
use mathlib.Core.Option.{Option, none, some}
use native.Mathlib.Omega.{arith}
use lib.ListN.{length, length-append}
use lib.Dec.{eqb}
use borrow.Author.Tests.{eq-eqb, ne_eqb}
use Rattle.lists.specs.Lists.{All}
use Rattle.lists.proofs.Any.{All-implies}
use Rattle.machine.specs.Value.{Thing, qubit, channel, end, Value, empty, int, bool, ref}
use Rattle.machine.specs.State.{Process, Config, Line, State, Event, process_at, set_process, start_config, line_of, forked, gave, met, finishes, stops, start_config_with}
use Rattle.machine.specs.Act.{Act, idle, stuck, faults, goes, ends, makes, forks, offers, act_of}
use Rattle.machine.specs.Entry.{Meeting, runs, handing, meeting_of, counted, making, joined, forking, judged, applied, effect_of, things_of, applied_in, effect_in, forking_in, meet_if_in, meet_in, table_machine}
use Rattle.machine.specs.Owner.{count_kind, LineNew, values_of}
use Rattle.machine.proofs.Within.{Quiet, Next, ActWithin, judged-within}
use Rattle.machine.proofs.Giving.{count_set}
use Rattle.machine.proofs.Lines.{EachLine, each_append}

pub record Numbered (c : Config) (ls : List Line) : Type 0 where
  pub qubits : c.qubits ≡ count_kind 1 ls
  pub channels : c.channels ≡ count_kind 2 ls
  pub processes : length c.processes ≡ suc (count_kind 5 ls)
  pub new : EachLine LineNew [] ls

-- counts

count-append : (j : ℕ) (xs ys : List Line) → count_kind j (xs ++ ys) ≡ count_kind j xs + count_kind j ys
unfolding count_kind
count-append j [] ys = omega arith
count-append j (x ∷ xs) ys = rw (count-append j xs ys) (added (eqb x.kind j) (count_kind j xs) (count_kind j ys))
  where
    added : (b : Bool) (m n : ℕ) → cond b (suc (m + n)) (m + n) ≡ cond b (suc m) m + n
    added true m n = omega arith
    added false m n = refl

-- an event that makes nothing
abbrev Plain : Event → Type 0
Plain e = (e.kind ≢ 1) × (e.kind ≢ 2) × (e.kind ≢ 5)

count_none : (j k n : ℕ) (es : List Event) → All (λ e. e.kind ≢ j) es → count_kind j (map (line_of k n) es) ≡ 0
unfolding count_kind
count_none j k n [] a = refl
count_none j k n (e ∷ es) a = rw (ne_eqb e.kind j a.0) (count_none j k n es a.1)

-- entries that make nothing

plain-new : (above : List Line) (k n : ℕ) (es : List Event) → All Plain es
    → EachLine LineNew above (map (line_of k n) es)
plain-new above k n [] a = tt
plain-new above k n (e ∷ es) a = (
  record { qubit = λ i. absurd (a.0.0 i); channel = λ i. absurd (a.0.1 i); child = λ i. absurd (a.0.2 i) },
  plain-new (above ++ (line_of k n e ∷ [])) k n es a.1,
)

numbered-plain : (c : Config) (ls : List Line) (k n : ℕ) (es : List Event) → All Plain es → Numbered c ls
    → Numbered c (ls ++ map (line_of k n) es)
numbered-plain c ls k n es a h = record {
  qubits = h.qubits ∙ kept 1 (All-implies Plain (λ x. x.kind ≢ 1) (λ x w. w.0) es a);
  channels = h.channels ∙ kept 2 (All-implies Plain (λ x. x.kind ≢ 2) (λ x w. w.1) es a);
  processes = h.processes ∙ ap suc (kept 5 (All-implies Plain (λ x. x.kind ≢ 5) (λ x w. w.2) es a));
  new = each_append LineNew [] ls (map (line_of k n) es) h.new (plain-new ls k n es a);
}
  where
    kept : (j : ℕ) → All (λ x. x.kind ≢ j) es → count_kind j ls ≡ count_kind j (ls ++ map (line_of k n) es)
    kept j w = omega (arith, count-append j ls (map (line_of k n) es), count_none j k n es w)

numbered-set : (c : Config) (ls : List Line) (n : ℕ) (pr : Process) → Numbered c ls → Numbered (set_process c n pr) ls
unfolding set_process
numbered-set c ls n pr h =
    record { qubits = h.qubits; channels = h.channels; processes = count_set c n pr ∙ h.processes; new = h.new }

-- one line of a making, and one of a fork

one_more : (j : ℕ) (ls : List Line) (l : Line) → l.kind ≡ j → count_kind j (ls ++ (l ∷ [])) ≡ suc (count_kind j ls)
unfolding count_kind
one_more j ls l e = count-append j ls (l ∷ []) ∙ rw (eq-eqb l.kind j e) (omega arith)

none_more : (j : ℕ) (ls : List Line) (l : Line) → l.kind ≢ j → count_kind j (ls ++ (l ∷ [])) ≡ count_kind j ls
unfolding count_kind
none_more j ls l e = count-append j ls (l ∷ []) ∙ rw (ne_eqb l.kind j e) (omega arith)

numbered-making : (c : Config) (ls : List Line) (k n : ℕ) (t : Thing) → Next c.qubits c.channels t → Numbered c ls
    → Numbered (counted t c) (ls ++ (line_of k n (making t) ∷ []))
unfolding counted making
numbered-making c ls k n (qubit a) e h = record {
  qubits = ap suc h.qubits ∙ sym (one_more 1 ls l refl);
  channels = h.channels ∙ sym (none_more 2 ls l (omega arith));
  processes = h.processes ∙ ap suc (sym (none_more 5 ls l (omega arith)));
  new = each_append LineNew [] ls (l ∷ []) h.new (
    record {
      qubit = λ i. e ∙ h.qubits;
      channel = λ i. absurd (omega (arith, i));
      child = λ i. absurd
          (omega (arith, i));
    },
    tt,
  );
}
  where
    l : Line
    l = line_of k n (making (qubit a))
numbered-making c ls k n (channel a) e h = record {
  qubits = h.qubits ∙ sym (none_more 1 ls l (omega arith));
  channels = ap suc h.channels ∙ sym (one_more 2 ls l refl);
  processes = h.processes ∙ ap suc (sym (none_more 5 ls l (omega arith)));
  new = each_append LineNew [] ls (l ∷ []) h.new (
    record {
      qubit = λ i. absurd (omega (arith, i));
      channel = λ i. e ∙ h.channels;
      child = λ i. absurd
          (omega (arith, i));
    },
    tt,
  );
}
  where
    l : Line
    l = line_of k n (making (channel a))
numbered-making c ls k n (end a d) e h = absurd e

numbered-fork : (c : Config) (ls : List Line) (k n child m params : ℕ) (pr : Process) → child ≡ length c.processes
    → Numbered c ls → Numbered (joined c pr) (ls ++ (line_of k n (forked child m params) ∷ []))
unfolding joined
numbered-fork c ls k n child m params pr e h = record {
  qubits = h.qubits ∙ sym (none_more 1 ls l (omega arith));
  channels = h.channels ∙ sym (none_more 2 ls l (omega arith));
  processes = omega (arith, length-append c.processes (pr ∷ []), h.processes, one_more 5 ls l refl);
  new = each_append LineNew [] ls (l ∷ []) h.new (
    record {
      qubit = λ i. absurd (omega (arith, i));
      channel = λ i. absurd (omega (arith, i));
      child = λ i. e
          ∙ h.processes;
    },
    tt,
  );
}
  where
    l : Line
    l = line_of k n (forked child m params)

-- every entry

gave-plain : (q : ℕ) (ts : List Thing) → All Plain (map (gave q) ts)
gave-plain q [] = tt
gave-plain q (t ∷ ts) = ((omega arith, omega arith, omega arith), gave-plain q ts)

handing-plain : (q : ℕ) (v : Value) → All Plain (handing q v)
unfolding handing
handing-plain q empty = ((omega arith, omega arith, omega arith), tt)
handing-plain q (int z) = ((omega arith, omega arith, omega arith), tt)
handing-plain q (bool b) = ((omega arith, omega arith, omega arith), tt)
handing-plain q (ref t) = ((omega arith, omega arith, omega arith), tt)

quiet-plain : (ys : List Value) (es : List Event) → All (Quiet ys) es → All Plain es
quiet-plain ys es a = All-implies (Quiet ys) Plain (λ e q. (q.not_made.0, q.not_made.1, q.not_forked)) es a

nothing-new : (c : Config) (ls : List Line) → Numbered c ls → Numbered c (ls ++ [])
nothing-new c ls h = rw append-nil h

numbered-met : (p outcomes : List ℕ) (k : ℕ) (s : State) (o : Option Meeting) → Numbered s.config s.lines
    → Numbered (meet_if_in (table_machine p outcomes) k s o).config
    (s.lines ++ (meet_if_in (table_machine p outcomes) k s o).lines)
unfolding meet_if_in meet_in
numbered-met p outcomes k s none h = nothing-new s.config s.lines h
numbered-met p outcomes k s (some e) h =
    numbered-plain _ s.lines k e.sender
    (met e.receiver e.channel e.side ∷ handing e.receiver e.value)
    ((omega arith, omega arith, omega arith), handing-plain e.receiver e.value)
    (numbered-set _ s.lines e.receiver _ (numbered-set s.config s.lines e.sender _ h))

applied-numbered : (p outcomes : List ℕ) (k : ℕ) (s : State) (n : ℕ) → Numbered s.config s.lines → (act : Act)
    → ActWithin (values_of (process_at s.config n).frames) s.config.qubits s.config.channels act
    → Numbered (applied p outcomes k s n act).config (s.lines ++ (applied p outcomes k s n act).lines)
unfolding applied_in forking_in set_process
applied-numbered p outcomes k s n h idle w = nothing-new s.config s.lines h
applied-numbered p outcomes k s n h stuck w = nothing-new s.config s.lines h
applied-numbered p outcomes k s n h (faults f) w =
    numbered-plain _ s.lines k n (stops f ∷ []) ((omega arith, omega arith, omega arith), tt)
    (numbered-set s.config s.lines n _ h)
applied-numbered p outcomes k s n h (goes fs es u) w =
    numbered-plain _ s.lines k n es (quiet-plain _ es w.1) (numbered-set s.config s.lines n (runs fs) h)
applied-numbered p outcomes k s n h ends w =
    numbered-plain _ s.lines k n (finishes ∷ []) ((omega arith, omega arith, omega arith), tt)
    (numbered-set s.config s.lines n _ h)
applied-numbered p outcomes k s n h (makes t fs) w =
    numbered-making _ s.lines k n t w.0 (numbered-set s.config s.lines n (runs fs) h)
applied-numbered p outcomes k s n h (forks m args fs) w =
    subst (Numbered _)
    (append_assoc s.lines (line_of k n (forked child m (length args)) ∷ [])
    (map (line_of k n) (map (gave child) (things_of args))))
    (numbered-plain _ _ k n (map (gave child) (things_of args)) (gave-plain child (things_of args))
    (numbered-fork _ s.lines k n child m (length args) _ (sym (count_set s.config n _))
    (numbered-set s.config s.lines n _ h)))
  where
    child : ℕ
    child = length s.config.processes
applied-numbered p outcomes k s n h (offers o) w = numbered-met p outcomes k s (meeting_of p outcomes s n o) h

pub entry-numbered : (p outcomes : List ℕ) (k : ℕ) (s : State) (n : ℕ) → Numbered s.config s.lines
    → Numbered (effect_of p outcomes k s n).config (s.lines ++ (effect_of p outcomes k s n).lines)
unfolding effect_in
entry-numbered p outcomes k s n h =
    applied-numbered p outcomes k s n h (judged s n (act_of p outcomes s n)) (judged-within p outcomes s n)

-- the start

pub start-numbered : (p : List ℕ) → Numbered (start_config p) []
unfolding start_config_with count_kind
start-numbered p = record { qubits = refl; channels = refl; processes = refl; new = tt }
