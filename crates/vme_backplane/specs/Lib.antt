-- believe, for `backplanes_answer_alike`: two backplanes that answer an edge alike
pub mod Alike
