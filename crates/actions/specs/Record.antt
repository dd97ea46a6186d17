-- The record of an action. Document 01, section Session, "The record". Grouped to the right, as the laws of a chain of writes want it.
-- Assumes nothing.
use Rattle.std.specs.Prelude.{Bool, true, false, List, ◌++◌, ℕ, Option, Some, None}
use Rattle.store.specs.Sevens.{encode, named}
use Rattle.lists.specs.Lists.{text_at}
use Rattle.ranges.specs.declared.range.MoveDir1D.{MoveDir1D}
use Rattle.actions.specs.declared.flags.OpenFlags.{OpenFlags}
use Rattle.actions.specs.declared.flags.CloseFlags.{CloseFlags}
use Rattle.actions.specs.declared.flags.WriteFlags.{WriteFlags}
use Rattle.actions.specs.declared.action.Count.{Count}
use Rattle.actions.specs.declared.action.Axis.{Axis}
use Rattle.actions.specs.declared.action.Side.{Side}
use Rattle.actions.specs.declared.action.FocusChange.{FocusChange}
use Rattle.actions.specs.declared.action.Target.{Target}
use Rattle.actions.specs.declared.action.OpenTarget.{OpenTarget}
use Rattle.actions.specs.declared.action.SizeChange.{SizeChange}
use Rattle.actions.specs.declared.action.WindowAction.{WindowAction}
use Rattle.actions.specs.declared.action.TabAction.{TabAction}
use Rattle.actions.specs.declared.action.Action.{Action}
use Rattle.lists.specs.declared.list.Item.{Item}

-- the actions of the paper: what is opened or written is named by bytes ----------------------------------------------------------------

pub data Opened : Type 0 where
  current : Opened
  alternate : Opened
  unnamed : Opened
  name : List ℕ → Opened

pub data Written : Type 0 where
  absent : Written
  name : List ℕ → Written

pub data Paper : Type 0 where
  Close : Target → CloseFlags → Paper
  Resize : FocusChange → Axis → SizeChange → Paper
  Open : Opened → OpenFlags → Axis → Side → Count → Paper
  Split : Opened → OpenFlags → Axis → Side → Count → Paper
  Switch : Opened → OpenFlags → Paper
  Write : Target → Written → WriteFlags → Paper
  TabClose : Target → CloseFlags → Paper
  TabFocus : FocusChange → Paper
  TabMove : FocusChange → Paper
  TabOpen : Opened → OpenFlags → FocusChange → Paper

-- which of them a value stands for, whose names have their places in the argument s ------------------------------------------------------

abbrev pub opened_of : List ℕ → OpenTarget → Opened
opened_of s OpenTarget.Current = Opened.current
opened_of s OpenTarget.Alternate = Opened.alternate
opened_of s OpenTarget.Unnamed = Opened.unnamed
opened_of s (OpenTarget.Name x) = Opened.name (text_at s x.start)

abbrev pub written_of : List ℕ → Option Item → Written
written_of s None = Written.absent
written_of s (Some x) = Written.name (text_at s x.start)

abbrev pub window_of : List ℕ → WindowAction → Paper
window_of s (WindowAction.Close t f) = Paper.Close t f
window_of s (WindowAction.Resize f a c) = Paper.Resize f a c
window_of s (WindowAction.Open t f a d n) = Paper.Open (opened_of s t) f a d n
window_of s (WindowAction.Split t f a d n) = Paper.Split (opened_of s t) f a d n
window_of s (WindowAction.Switch t f) = Paper.Switch (opened_of s t) f
window_of s (WindowAction.Write t n f) = Paper.Write t (written_of s n) f

abbrev pub tab_of : List ℕ → TabAction → Paper
tab_of s (TabAction.Close t f) = Paper.TabClose t f
tab_of s (TabAction.Focus f) = Paper.TabFocus f
tab_of s (TabAction.Move f) = Paper.TabMove f
tab_of s (TabAction.Open t f c) = Paper.TabOpen (opened_of s t) f c

abbrev pub paper_of : List ℕ → Action → Paper
paper_of s (Action.Window w) = window_of s w
paper_of s (Action.Tab t) = tab_of s t

-- the bytes of each part -------------------------------------------------------------------------------------------------------------------

-- "Direction and side: 0 Next, 1 Previous."
abbrev pub direction_no : MoveDir1D → ℕ
direction_no MoveDir1D.Next = 0
direction_no MoveDir1D.Previous = 1

abbrev pub side_no : Side → ℕ
side_no Side.Next = 0
side_no Side.Previous = 1

-- "Axis: 0 horizontal, 1 vertical."
abbrev pub axis_no : Axis → ℕ
axis_no Axis.Horizontal = 0
axis_no Axis.Vertical = 1

-- "wrap (0 or 1)"
abbrev pub bool_no : Bool → ℕ
bool_no false = 0
bool_no true = 1

-- "Count: 0 Contextual, or 1 and n."
abbrev pub count_bytes : Count → List ℕ
count_bytes Count.Contextual = encode 0
count_bytes (Count.Exact n) = encode 1 ++ encode n

-- "Focus: 0 Current; 1 Offset, n; 2 Direction1D, direction, count, wrap; 3 Beginning; 4 End."
abbrev pub focus_bytes : FocusChange → List ℕ
focus_bytes FocusChange.Current = encode 0
focus_bytes (FocusChange.Offset n) = encode 1 ++ encode n
focus_bytes (FocusChange.Direction1D d c w) = encode 2 ++ (encode (direction_no d) ++ (count_bytes c ++ encode (bool_no w)))
focus_bytes FocusChange.Beginning = encode 3
focus_bytes FocusChange.End = encode 4

-- "Window or tab target: 0 Single and focus, 1 AllBut and focus, 2 All."
abbrev pub target_bytes : Target → List ℕ
target_bytes (Target.Single f) = encode 0 ++ focus_bytes f
target_bytes (Target.AllBut f) = encode 1 ++ focus_bytes f
target_bytes Target.All = encode 2

-- "Target: 0 Current, 1 Alternate, 2 Unnamed, 3 and a name."
abbrev pub opened_bytes : Opened → List ℕ
opened_bytes Opened.current = encode 0
opened_bytes Opened.alternate = encode 1
opened_bytes Opened.unnamed = encode 2
opened_bytes (Opened.name t) = encode 3 ++ named t

-- "0 or 1 and a name"
abbrev pub written_bytes : Written → List ℕ
written_bytes Written.absent = encode 0
written_bytes (Written.name t) = encode 1 ++ named t

-- "Change: 0 Exact, 1 Increase, 2 Decrease, then n."
abbrev pub change_bytes : SizeChange → List ℕ
change_bytes (SizeChange.Exact n) = encode 0 ++ encode n
change_bytes (SizeChange.Increase n) = encode 1 ++ encode n
change_bytes (SizeChange.Decrease n) = encode 2 ++ encode n

-- "Flags add up: close QUIT 1, FORCE 2; open FORCE 1, READONLY 2; write FORCE 1."
abbrev pub close_quit : ℕ
close_quit = 1

abbrev pub close_force : ℕ
close_force = 2

abbrev pub open_force : ℕ
open_force = 1

abbrev pub open_readonly : ℕ
open_readonly = 2

abbrev pub write_force : ℕ
write_force = 1

-- none
abbrev pub no_flags : ℕ
no_flags = 0

-- the record: a kind, and its parts
abbrev pub paper_record : Paper → List ℕ
paper_record (Paper.Close t f) = encode 1 ++ (target_bytes t ++ encode f.bits)
paper_record (Paper.Resize f a c) = encode 2 ++ (focus_bytes f ++ (encode (axis_no a) ++ change_bytes c))
paper_record (Paper.Open t f a d n) =
    encode 3 ++ (opened_bytes t ++ (encode f.bits ++ (encode (axis_no a) ++ (encode (side_no d) ++ count_bytes n))))
paper_record (Paper.Split t f a d n) =
    encode 4 ++ (opened_bytes t ++ (encode f.bits ++ (encode (axis_no a) ++ (encode (side_no d) ++ count_bytes n))))
paper_record (Paper.Switch t f) = encode 5 ++ (opened_bytes t ++ encode f.bits)
paper_record (Paper.Write t n f) = encode 6 ++ (target_bytes t ++ (written_bytes n ++ encode f.bits))
paper_record (Paper.TabClose t f) = encode 7 ++ (target_bytes t ++ encode f.bits)
paper_record (Paper.TabFocus f) = encode 8 ++ focus_bytes f
paper_record (Paper.TabMove f) = encode 9 ++ focus_bytes f
paper_record (Paper.TabOpen t f c) = encode 10 ++ (opened_bytes t ++ (encode f.bits ++ focus_bytes c))

-- "0 nothing"
abbrev pub nothing_record : List ℕ
nothing_record = encode 0

unfoldable pub record_of : List ℕ → Action → List ℕ
record_of s a = paper_record (paper_of s a)
