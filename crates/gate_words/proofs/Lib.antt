mod Numbers
mod Wrong
