-- `atc2_begin` returns 0 and leaves the beginning of a search, or returns the refusal and leaves
-- `search`, as `begin` answers.
-- Assumes nothing.
use Rattle.contact.specs.Says.{says_search_begun}
use Rattle.abi.specs.Contacts.{begun_number, begun_put}
use Rattle.abi.proofs.Carried.{faced}
use Rattle.abi.proofs.contacts.atc2_begin.Goals as goal

pub returns-in-Ok : goal.returns-in-Ok
returns-in-Ok c =
    let both = faced says_search_begun begun_number begun_put c.args.search.now c.in-Ok.is c.begin.ensures in
    record { value = both.0; search_after = both.1 }

pub returns-in-Err : goal.returns-in-Err
returns-in-Err c =
    let both = faced says_search_begun begun_number begun_put c.args.search.now c.in-Err.is c.begin.ensures in
    record { value = both.0; search_after = both.1 }
