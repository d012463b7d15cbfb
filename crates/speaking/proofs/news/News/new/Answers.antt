use Rattle.speaking.proofs.news.News.new.Goals as goal

pub returns : goal.returns
returns c = λ i. record { nodes = record { keys = c.new.ensures.empty i }; regions = record { keys = c.new-2.ensures.empty i } }
