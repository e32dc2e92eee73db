use Rattle.statement.proofs.laws.Closing.{closes}
use Rattle.statement.proofs.laws.Fronts.{whole-front}
use Rattle.mt940_out.proofs.Stated.{pages-beside}
use Rattle.mt940_out.proofs.paging.customer_pages.Goals as goal

pub customer_pages_with-requires : goal.customer_pages_with-requires
customer_pages_with-requires c = record {
  has = record { is = c.in_ok-index.ensures; listed = c.requires.listed };
  shaped = c.requires.shaped;
  home = c.requires.home;
  century = c.requires.day;
}

pub returns-in_err-index-clause-pages : goal.returns-in_err-index-clause-pages
returns-in_err-index-clause-pages c = pages-beside c.args.a.now c.args.h.now.entries c.args.n.0 c.args.day

pub returns-in_err-index-clause-closes : goal.returns-in_err-index-clause-closes
returns-in_err-index-clause-closes c =
    closes c.args.a.now c.args.h.now.entries c.args.n.0 c.args.day (whole-front c.args.a.now c.args.h.now.entries c.requires.legal) c.requires.listed
