use Rattle.page_states.proofs.Backing.{links_lead_to_rows}
use Rattle.page_states.proofs.laws.links_lead_to_rows.Goals as goal

pub returns : goal.returns
returns c = links_lead_to_rows
