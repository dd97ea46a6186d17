-- `record::put_action` meets its contract.
-- Assumes nothing.
use Rattle.actions.specs.Record.{record_of}
use Rattle.actions.proofs.record.put_action.Goals as goal

pub returns-in-Window : goal.returns-in-Window
unfolding record_of
returns-in-Window c = rw c.in-Window.is c.put_window_action.ensures

pub returns-in-Tab : goal.returns-in-Tab
unfolding record_of
returns-in-Tab c = rw c.in-Tab.is c.put_tab_action.ensures
