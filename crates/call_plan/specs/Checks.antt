-- H_ENTER with its checks: of the index, of the doublewords, and of the grant that holds the page.
use Rattle.std.specs.Prelude.{ℕ, List, Option, Some, None, if◌then◌else◌, nat_lt}
use Rattle.hpte_fields.specs.TableSize.{entry_count}
use Rattle.papr_codes.specs.declared.codes.Rc.TheVariants.{Parameter}
use Rattle.frame_grants.specs.declared.grant.Grant.{Grant}
use Rattle.page_grants.specs.Suited.{entered_words}
use Rattle.entry_model.specs.Trial.{Plan, plan_of_code}
use Rattle.call_plan.specs.Enter.{enter_plan}

-- H_ENTER of the words that are stored, if there are any.
abbrev pub words_plan : ℕ → ℕ → Option (ℕ × ℕ) → Plan
words_plan flags ptex None = plan_of_code Parameter
words_plan flags ptex (Some w) = enter_plan flags ptex w.0 w.1

-- H_ENTER. H_PARAMETER comes where the index is past the table, where the doublewords can't be
-- stored, or where no single grant holds the page with these storage control bits; nothing is tried
-- then.
unfoldable pub h_enter_plan : ℕ → List Grant → ℕ → ℕ → ℕ → ℕ → Plan
h_enter_plan order grants flags ptex pteh ptel =
    if nat_lt ptex (entry_count order)
    then words_plan flags ptex (entered_words grants pteh ptel)
    else plan_of_code Parameter
