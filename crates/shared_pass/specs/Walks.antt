-- The walk that an access of C asks for, and its calls on the entries of a table.
use Rattle.std.specs.Prelude.{ℕ, List, Option, Some, None}
use Rattle.storage_prot.specs.declared.want.Want.{Want}
use Rattle.power_addr.specs.Pages.{VirtualPage}
use Rattle.entry_model.specs.Trial.{Call}
use Rattle.hpt_walk.specs.Walk.{walk_calls}
use Rattle.c_layout.specs.declared.walking.PaprAccess.{PaprAccess}
use Rattle.c_layout.specs.Accesses.{want_of, page_of}
use Rattle.c_layout.specs.WalkEnds.{mode_of}
use Rattle.shared_pass.specs.declared.walk.PageWalk.{PageWalk}

-- The walk of an access, where there is a page and a kind of access.
abbrev pub walk_where : Option VirtualPage → Option Want → PaprAccess → Option PageWalk
walk_where (Some page) (Some want) a = Some (record { access = a; page = page; want = want })
walk_where page want a = None

-- The walk of an access, where its arguments are in range.
abbrev pub walk_asked : PaprAccess → Option PageWalk
walk_asked a = walk_where (page_of a) (want_of a.want) a

-- The calls of a walk on a table of 2 ^ order bytes: those on the entries of the page's two groups.
abbrev pub calls_of_walk : ℕ → PageWalk → List Call
calls_of_walk order w = walk_calls order w.page (mode_of w.access w.want)
