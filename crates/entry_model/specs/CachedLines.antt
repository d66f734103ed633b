-- What a cached translation says of its entry's state, and which receipts show it.
use Rattle.std.specs.Prelude.{◌≡◌, ℕ, ◌<◌, ◌⊎◌, List, [], ◌∷◌, IsTrue}
use Rattle.std.specs.List.{AllByRecursion}
use Rattle.power_addr.specs.Pages.{VirtualPage, first_page}
use Rattle.entry_model.specs.State.{State}
use Rattle.entry_model.specs.declared.line.Line.{Line}
use Rattle.entry_model.specs.declared.operation.Op.{Op}
use Rattle.entry_model.specs.declared.operation.Op.TheVariants.{Access}
use Rattle.entry_model.specs.declared.receipt.Receipt.{Receipt}
use Rattle.entry_model.specs.Reply.{compared_bits, has_base}
use Rattle.entry_model.specs.Receipt.{is_decided}

-- A line of the first page by entry 0, with nothing in its doublewords: what a set of lines holds
-- past its end.
abbrev pub blank_line : Line
blank_line = record { page = first_page; entry = 0; stamp = 0; dword0 = 0; dword1 = 0 }

-- ---- a line and a state of its entry
-- The state is valid, with the line's stamp and doublewords.
pub record IsCurrent (line : Line) (s : State) : Type 0 where
  pub valid : IsTrue s.valid
  pub stamp : s.stamp ≡ line.stamp
  pub dword0 : s.dword0 ≡ line.dword0
  pub dword1 : s.dword1 ≡ line.dword1

-- A line holds of a state that is past the line's stamp, or at which the line is current.
abbrev pub Holds : Line → State → Type 0
Holds line s = (line.stamp < s.stamp) ⊎ IsCurrent line s

-- ---- a line and an access
-- The operation is an access that the line's doublewords match.
abbrev pub IsAccessOf : Line → Op → Type 0
IsAccessOf line (Access tag base key no_execute want masks) =
    (tag ≡ compared_bits line.dword0) × IsTrue (has_base line.dword0 line.dword1 base)
IsAccessOf line other = ⊥

-- ---- lines and receipts
-- The line of the page by this receipt's entry, as its state before was.
abbrev pub line_of : VirtualPage → Receipt → Line
line_of page r = record {
  page = page;
  entry = r.entry;
  stamp = r.before.stamp;
  dword0 = r.before.dword0;
  dword1 = r.before.dword1;
}

-- The line of this entry in this state.
pub record IsLineAt (line : Line) (e : ℕ) (s : State) : Type 0 where
  pub entry : line.entry ≡ e
  pub stamp : line.stamp ≡ s.stamp
  pub dword0 : line.dword0 ≡ s.dword0
  pub dword1 : line.dword1 ≡ s.dword1

-- The line is that of a receipt's entry before, and the answer used it.
abbrev pub ShowsLine : Line → List Receipt → Type 0
ShowsLine line [] = ⊥
ShowsLine line (r ∷ rs) =
    (IsTrue (is_decided r.answer) × IsLineAt line r.entry r.before) ⊎ ShowsLine line rs

-- Each receipt of the line's entry has a stamp before that is above the line's.
abbrev pub IsLater : Line → Receipt → Type 0
IsLater line r = r.entry ≡ line.entry → line.stamp < r.before.stamp

-- Each of these receipts comes after the line.
abbrev pub AllLater : Line → List Receipt → Type 0
AllLater line rs = AllByRecursion (IsLater line) rs
